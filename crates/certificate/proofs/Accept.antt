-- A run is accepted exactly if the rules for its inputs are kept. Assumes nothing.
use Rattle.std.specs.Prelude.{ℕ, ◌%◌, ◌≤◌, ◌<◌, ◌≡◌, Bool, false, not, ◌||◌, ◌↔◌, List, ◌++◌, length, eqb, ltb}
use Rattle.std.proofs.Common.{arith, sym, ap, ◌∙◌, append_assoc, eq-eqb, eqb-true, le-ltb, ltb-false}
use Rattle.words.specs.Logic.{not-false}
use Rattle.words.proofs.Logic.{or-false}
use Rattle.form.specs.Form.{answer_start}
use Rattle.form.specs.declared.Form.{Form}
use Rattle.sheet.specs.Fields.{Sheet}
use Rattle.sheet.specs.Cause.{Cause, accepted, some_holds, Numbered, Foremost}
use Rattle.sheet.proofs.Cause.{some_append, numbered_append, none_first, first-none, foremost_exactly}
use Rattle.sheet.specs.Rules.{size_causes, frame_causes}
use Rattle.sheet.proofs.RuleLaws.{size_numbered, frame_numbered}
use Rattle.sheet.proofs.AcceptedLaws.{none-keeps, keeps-none}
use Rattle.model.specs.Model.{lines}
use Rattle.model.specs.Script.{Whole}
use Rattle.certificate.specs.Run.{most_lines, script_causes, room_causes, causes, refusal}
use Rattle.certificate.specs.Accept.{Proper}

-- ---- each rule and its test

script_rules : (s : List ℕ) → some_holds (script_causes s) ≡ false → Whole s × (lines s ≤ most_lines)
unfolding some_holds script_causes
script_rules s e =
    let p = or-false (not (eqb (length s % 4) 0)) (ltb most_lines (lines s) || false) e in
    let q = or-false (ltb most_lines (lines s)) false p.1 in
    (eqb-true (length s % 4) 0 (not-false (eqb (length s % 4) 0) p.0), ltb-false most_lines (lines s) q.0)

rules_script : (s : List ℕ) → Whole s → lines s ≤ most_lines → some_holds (script_causes s) ≡ false
unfolding some_holds script_causes
rules_script s w f = rw (eq-eqb (length s % 4) 0 w, le-ltb most_lines (lines s) f)

room_rule : (F : Form) (s : List ℕ) (bytes : ℕ) → some_holds (room_causes F s bytes) ≡ false → answer_start F (lines s) ≤ bytes
unfolding some_holds room_causes
room_rule F s bytes e = ltb-false bytes (answer_start F (lines s)) (or-false (ltb bytes (answer_start F (lines s))) false e).0

rule_room : (F : Form) (s : List ℕ) (bytes : ℕ) → answer_start F (lines s) ≤ bytes → some_holds (room_causes F s bytes) ≡ false
unfolding some_holds room_causes
rule_room F s bytes h = rw (le-ltb bytes (answer_start F (lines s)) h)

pub run_numbered : (F : Form) (script : List ℕ) (bytes : ℕ) → Numbered (script_causes script ++ room_causes F script bytes)
unfolding script_causes room_causes
run_numbered F script bytes = (omega arith, (omega arith, (omega arith, tt)))

-- ---- the four lists in a row

module _ (sheet : Sheet) (script : List ℕ) (bytes : ℕ) where
  abbrev rooms : List Cause
  rooms = room_causes sheet.form script bytes

  some-causes : some_holds (causes sheet script bytes)
      ≡ some_holds (size_causes sheet) || (some_holds (script_causes script) || (some_holds rooms || some_holds (frame_causes sheet)))
  some-causes =
      some_append (size_causes sheet) _
      ∙ ap (λ (t : Bool). some_holds (size_causes sheet) || t) (some_append (script_causes script) _
      ∙ ap (λ (t : Bool). some_holds (script_causes script) || t) (some_append rooms (frame_causes sheet)))

  pub causes_numbered : Numbered (causes sheet script bytes)
  causes_numbered =
      numbered_append (size_causes sheet) (script_causes script ++ (rooms ++ frame_causes sheet)) (size_numbered sheet)
      (rw append_assoc at (numbered_append (script_causes script ++ rooms) (frame_causes sheet) (run_numbered sheet.form script bytes) (frame_numbered sheet)))

  -- no cause holds, list by list
  none_each : some_holds (causes sheet script bytes) ≡ false
      → (some_holds (size_causes sheet) ≡ false) × (some_holds (script_causes script) ≡ false) × (some_holds rooms ≡ false) × (some_holds (frame_causes sheet) ≡ false)
  none_each e =
      let p = or-false (some_holds (size_causes sheet)) (some_holds (script_causes script) || (some_holds rooms || some_holds (frame_causes sheet))) (sym some-causes ∙ e) in
      let q = or-false (some_holds (script_causes script)) (some_holds rooms || some_holds (frame_causes sheet)) p.1 in
      let r = or-false (some_holds rooms) (some_holds (frame_causes sheet)) q.1 in
      (p.0, q.0, r.0, r.1)

  none-proper : some_holds (causes sheet script bytes) ≡ false → Proper sheet script bytes
  none-proper e =
      let p = none_each e in
      record {
        sheet-kept = none-keeps sheet (some_append (size_causes sheet) (frame_causes sheet) ∙ rw (p.0, p.3));
        whole = (script_rules script p.1).0;
        few = (script_rules script p.1).1;
        room = room_rule sheet.form script bytes p.2;
      }

  proper-none : Proper sheet script bytes → some_holds (causes sheet script bytes) ≡ false
  proper-none P =
      let k = or-false (some_holds (size_causes sheet)) (some_holds (frame_causes sheet)) (sym (some_append (size_causes sheet) (frame_causes sheet)) ∙ keeps-none sheet P.sheet-kept) in
      some-causes ∙ rw (k.0, k.1, rules_script script P.whole P.few, rule_room sheet.form script bytes P.room)

  -- number 0 is told exactly if the rules are kept
  pub number-proper : (refusal sheet script bytes).number ≡ 0 → Proper sheet script bytes
  number-proper e = none-proper (first-none (causes sheet script bytes) causes_numbered e)

  pub proper-accepted : Proper sheet script bytes → refusal sheet script bytes ≡ accepted
  proper-accepted P = none_first (causes sheet script bytes) (proper-none P)

  -- number n at place k is told exactly if that cause holds and none before it in document 01's order does
  pub refused_foremost : (n k : ℕ) → 0 < n → (refusal sheet script bytes ≡ record { number = n; place = k }) ↔ Foremost (causes sheet script bytes) (record { number = n; place = k })
  refused_foremost n k h = foremost_exactly (causes sheet script bytes) n k h
