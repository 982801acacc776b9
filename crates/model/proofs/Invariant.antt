-- What is always so of the entries that stand (`Entered`) stays so at every line. Assumes nothing.
use Rattle.std.specs.Prelude.{ℕ, suc, ◌-◌, ◌<◌, ◌≡◌, List, [], ◌∷◌, ◌++◌, length, take, eqb}
use Rattle.std.proofs.Common.{arith, sym, ap, subst, ◌∙◌, take-suc}
use Rattle.std.proofs.Math.Seq.{take-length}
use Rattle.words.specs.Logic.{tests}
use Rattle.words.proofs.Logic.{by_bool}
use Rattle.model.specs.declared.Entry.{Entry}
use Rattle.model.specs.Model.{Meaning, no_entry, Reply, ENTER, TAKE-BACK, line_refusal, obeyed, line}
use Rattle.model.specs.Entries.{Entered, entry_at}
use Rattle.model.proofs.Entries.{entered-more, entered_less}
use Rattle.model.specs.Line.{Passes}
use Rattle.model.proofs.Line.{refusal-none, line_refused, line_taken}
use Rattle.model.proofs.KindsLaws.{enter_obeyed, back_obeyed, other-obeyed}

module _ (m : Meaning) (es : List Entry) (k a b c : ℕ) where
  enter_keeps : Passes m es k a b c → Entered m es → k ≡ ENTER → Entered m (obeyed m es k a b c).entries
  enter_keeps p d e =
      subst (Entered m) (ap (λ (r : Reply). r.entries) (sym (enter_obeyed m es a b c) ∙ ap (λ (x : ℕ). obeyed m es x a b c) (sym e)))
      (entered-more (record { variable = a; value = b; desk = c }) d (p.fresh e) (p.opened e) (p.valued e) (p.desked e))

  back_keeps : Passes m es k a b c → Entered m es → k ≡ TAKE-BACK → Entered m (obeyed m es k a b c).entries
  back_keeps p d e =
      let n = length es - 1 in
      let s : es ≡ take n es ++ (entry_at es n ∷ []) = front (p.standing e) in
      subst (Entered m) (ap (λ (r : Reply). r.entries) (sym (back_obeyed m (take n es) (entry_at es n) a b c)
      ∙ ap (λ (l : List Entry). obeyed m l TAKE-BACK a b c) (sym s) ∙ ap (λ (x : ℕ). obeyed m es x a b c) (sym e)))
      (entered_less n d)
    where
      front : 0 < length es → es ≡ take (length es - 1) es ++ (entry_at es (length es - 1) ∷ [])
      front h =
          let l : suc (length es - 1) ≡ length es = omega arith in
          sym (ap (λ (x : ℕ). take x es) l ∙ take-length es) ∙ take-suc es (length es - 1) no_entry (omega arith)

  obeyed-keeps : Passes m es k a b c → Entered m es → Entered m (obeyed m es k a b c).entries
  obeyed-keeps p d = by_bool (eqb k ENTER)
      (λ t. enter_keeps p d (omega tests))
      (λ t. by_bool (eqb k TAKE-BACK) (λ u. back_keeps p d (omega tests)) (λ u. subst (Entered m) (sym (other-obeyed m es k a b c t u)) d))

  -- what is always so of the entries stays so
  pub line-keeps : Entered m es → Entered m (line m es k a b c).entries
  line-keeps d = by_bool (eqb (line_refusal m es k a b c) 0)
      (λ t. let e : line_refusal m es k a b c ≡ 0 = omega tests in rw (line_taken m es k a b c e) (obeyed-keeps (refusal-none m es k a b c e) d))
      (λ t. rw (line_refused m es k a b c (omega tests)) d)
