-- Two scripts that differ in the desks of their ENTER lines alone: the same variables and values stand after each line, and the answers are the same but
-- for the desks that are told. Assumes nothing.
use Prim.Native.Nat.{ℕ, zero, suc, ◌+◌, ◌-◌, ◌*◌, ◌%◌, ◌≤◌, ◌<◌}
use native.Mathlib.Omega.{arith}
use Rattle.std.specs.Prelude.{◌≡◌, refl, false, List, [], ◌∷◌, ◌++◌, map, get_or, take}
use Rattle.std.proofs.Common.{sym, ap, ap₂, ◌∙◌}
use Rattle.std.proofs.Math.Bool.{true}
use Rattle.std.proofs.lemmas.List.{map-append, length-map}
use Rattle.std.proofs.Math.ListN.{length, get_or-map}
use Rattle.std.proofs.Math.Dec.{eqb}
use borrow.Author.Tests.{le-ltb}
use Rattle.words.specs.Logic.{tests}
use Rattle.words.proofs.Logic.{by_bool, clash, or_left, or_right}
use Rattle.words.specs.Word.{bit}
use Rattle.sheet.specs.Rules.{spare_set}
use Rattle.model.specs.declared.Entry.{Entry}
use Rattle.model.specs.Model.{Meaning, no_entry, entered, entered_mask, entered_values, Answer, answer_bytes, told, Reply, ENTER, TAKE-BACK, READ, ASK, used, unknown, last_desk, line_refusal, obeyed, line, line_at, after, answer_at}
use Rattle.model.specs.Entries.{Entered, entry_at}
use Rattle.model.proofs.Entries.{bit-entered_mask}
use Rattle.model.specs.Line.{Passes}
use Rattle.model.proofs.Line.{refusal-none, line_refused, line_taken}
use Rattle.model.specs.Script.{each_byte}
use Rattle.model.proofs.Script.{answer_bytes_are, after-keeps}
use Rattle.form.specs.declared.Form.{Form}
use Rattle.form.specs.declared.Form.TheVariants.{Narrow, Wide}
use Rattle.model.specs.Desks.{DesksAlone, SameButDesk, desk_byte, is_desk, tells_entry, without_desk, without_desks}

-- as bytes: all where no entry is told, and always all but that one
module _ (k : ℕ) (x y : Answer) (s : SameButDesk k x y) where
  pub same_bytes : (F : Form) → tells_entry k ≡ false → answer_bytes F x ≡ answer_bytes F y
  unfolding answer_bytes
  same_bytes F t = rw (s.number, s.v, s.word t)

  pub bytes_but_desk : (F : Form) (j : ℕ) → (j ≡ desk_byte F → ⊥) → get_or (answer_bytes F x) j 0 ≡ get_or (answer_bytes F y) j 0
  bytes_but_desk F j f = rw (answer_bytes_are F x, answer_bytes_are F y) (at F j f)
    where
      at : (F : Form) (j : ℕ) → (j ≡ desk_byte F → ⊥) → get_or (each_byte F x) j 0 ≡ get_or (each_byte F y) j 0
      at Narrow zero f = s.number
      at Narrow (suc zero) f = s.v
      at Narrow (suc (suc zero)) f = omega (arith, s.high)
      at Narrow (suc (suc (suc zero))) f = omega (arith, s.high)
      at Narrow (suc (suc (suc (suc zero)))) f = absurd (f refl)
      at Narrow (suc (suc (suc (suc (suc zero))))) f = s.low
      at Narrow (suc (suc (suc (suc (suc (suc j)))))) f = refl
      at Wide zero f = s.number
      at Wide (suc zero) f = s.v
      at Wide (suc (suc zero)) f = omega (arith, s.high)
      at Wide (suc (suc (suc zero))) f = omega (arith, s.high)
      at Wide (suc (suc (suc (suc zero)))) f = omega (arith, s.high)
      at Wide (suc (suc (suc (suc (suc zero))))) f = omega (arith, s.high)
      at Wide (suc (suc (suc (suc (suc (suc zero)))))) f = omega (arith, s.high)
      at Wide (suc (suc (suc (suc (suc (suc (suc zero))))))) f = omega (arith, s.high)
      at Wide (suc (suc (suc (suc (suc (suc (suc (suc zero)))))))) f = absurd (f refl)
      at Wide (suc (suc (suc (suc (suc (suc (suc (suc (suc zero))))))))) f = s.low
      at Wide (suc (suc (suc (suc (suc (suc (suc (suc (suc (suc j)))))))))) f = refl

-- ---- entries that differ in their desks alone

map-take : {A B : Type 0} (f : A → B) (n : ℕ) (l : List A) → map f (take n l) ≡ take n (map f l)
map-take f zero l = refl
map-take f (suc n) [] = refl
map-take {B = B} f (suc n) (x ∷ l) = ap (λ (r : List B). f x ∷ r) (map-take f n l)

mask-without : (es : List Entry) → entered_mask (without_desks es) ≡ entered_mask es
unfolding entered_mask
mask-without [] = refl
mask-without (e ∷ es) = rw (mask-without es)

values-without : (es : List Entry) → entered_values (without_desks es) ≡ entered_values es
unfolding entered_values
values-without [] = refl
values-without (e ∷ es) = rw (values-without es)

module _ (es ds : List Entry) (same : without_desks es ≡ without_desks ds) where
  -- what does not look at desks is the same of both
  same_read : {B : Type 0} (f : List Entry → B) → ((l : List Entry) → f (without_desks l) ≡ f l) → f es ≡ f ds
  same_read f blind = sym (blind es) ∙ ap f same ∙ blind ds

  same_length : length es ≡ length ds
  same_length = same_read (λ l. length l) (λ l. length-map l without_desk)

  same-mask : entered_mask es ≡ entered_mask ds
  same-mask = same_read entered_mask mask-without

  same-values : entered_values es ≡ entered_values ds
  same-values = same_read entered_values values-without

  same-entered : (x : ℕ) → entered es x ≡ entered ds x
  same-entered x = sym (bit-entered_mask es x) ∙ ap (λ (w : ℕ). bit w x) same-mask ∙ bit-entered_mask ds x

  same_at : (i : ℕ) → without_desk (entry_at es i) ≡ without_desk (entry_at ds i)
  same_at i = sym (get_or-map without_desk es i no_entry) ∙ ap (λ (l : List Entry). get_or l i no_entry) same ∙ get_or-map without_desk ds i no_entry

  same-take : (n : ℕ) → without_desks (take n es) ≡ without_desks (take n ds)
  same-take n = map-take without_desk n es ∙ ap (take n) same ∙ sym (map-take without_desk n ds)

  same_more : (e d : Entry) → without_desk e ≡ without_desk d → without_desks (es ++ (e ∷ [])) ≡ without_desks (ds ++ (d ∷ []))
  same_more e d s =
      map-append without_desk es (e ∷ []) ∙ ap₂ (λ (l : List Entry) (x : Entry). l ++ (x ∷ [])) same s ∙ sym (map-append without_desk ds (d ∷ []))

-- ---- one line

-- two answers that are the same
same_answer : (k : ℕ) (x : Answer) → SameButDesk k x x
same_answer k x = record { number = refl; v = refl; word = λ t. refl; low = refl; high = refl }

-- two answers that tell entries of one variable and value
told_alike : (k : ℕ) (e d : Entry) → tells_entry k ≡ true → without_desk e ≡ without_desk d → e.value < 2 → e.desk ≤ last_desk → d.desk ≤ last_desk
    → SameButDesk k (told e) (told d)
told_alike k e d t s v p q =
    let w : e.value ≡ d.value = ap (λ (x : Entry). x.value) s in
    record {
      number = refl;
      v = ap (λ (x : Entry). x.variable) s;
      word = λ f. clash (tells_entry k) t f;
      low = omega arith;
      high = omega arith;
    }

-- the C bytes c and d of two lines of kind k that differ in the desk alone
record Desks (k c d : ℕ) : Type 0 where
  enters : k ≡ ENTER → (c ≤ last_desk) × (d ≤ last_desk)
  others : eqb k ENTER ≡ false → c ≡ d

-- what two such lines leave and answer
record Alike (k : ℕ) (x y : Reply) : Type 0 where
  stands : without_desks x.entries ≡ without_desks y.entries
  answers : SameButDesk k x.answer y.answer

module _ (m : Meaning) (es ds : List Entry) (same : without_desks es ≡ without_desks ds) (k a b c d : ℕ) (K : Desks k c d) where
  same-refusal : line_refusal m es k a b c ≡ line_refusal m ds k a b d
  unfolding line_refusal unknown used spare_set
  same-refusal = by_bool (eqb k ENTER)
      (λ t. let e : k ≡ ENTER = omega tests in
      let h = K.enters e in
      rw (e, le-ltb last_desk c h.0, le-ltb last_desk d h.1, same-entered es ds same a))
      (λ t. rw (K.others t, t, same_length es ds same))

  module _ (E : Entered m es) (D : Entered m ds) (p : Passes m es k a b c) where
    -- an entry that both tell
    told_at : (i : ℕ) → tells_entry k ≡ true → i < length es → SameButDesk k (told (entry_at es i)) (told (entry_at ds i))
    told_at i t h =
        let l : i < length ds = omega (arith, same_length es ds same) in
        told_alike k (entry_at es i) (entry_at ds i) t (same_at es ds same i) (E.valued i h) (E.desked i h) (D.desked i l)

    same-obeyed : Alike k (obeyed m es k a b c) (obeyed m ds k a b d)
    unfolding obeyed
    same-obeyed = by_bool (eqb k ENTER)
        (λ t. rw (t, same_length es ds same) (record { stands = same_more es ds same _ _ refl; answers = same_answer k _ }))
        (λ t. by_bool (eqb k TAKE-BACK)
        (λ u. let h = p.standing (omega tests) in
        let n : length es ≡ length ds = same_length es ds same in
        rw (t, u, ← n) (record { stands = same-take es ds same (length es - 1); answers = told_at (length es - 1) (or_left (eqb k TAKE-BACK) (eqb k READ) u) (omega arith) }))
        (λ u. by_bool (eqb k READ)
        (λ v. rw (t, u, v) (record { stands = same; answers = told_at a (or_right (eqb k TAKE-BACK) (eqb k READ) v) (p.there (omega tests)) }))
        (λ v. by_bool (eqb k ASK)
        (λ w. rw (t, u, v, w, same-mask es ds same, same-values es ds same) (record { stands = same; answers = same_answer k _ }))
        (λ w. rw (t, u, v, w, same-mask es ds same, same-values es ds same) (record { stands = same; answers = same_answer k _ })))))

  same_line : Entered m es → Entered m ds → Alike k (line m es k a b c) (line m ds k a b d)
  same_line E D = by_bool (eqb (line_refusal m es k a b c) 0)
      (λ t. let e : line_refusal m es k a b c ≡ 0 = omega tests in
      rw (line_taken m es k a b c e, line_taken m ds k a b d (sym same-refusal ∙ e)) (same-obeyed E D (refusal-none m es k a b c e)))
      (λ t. let h : 0 < line_refusal m es k a b c = omega tests in
      rw (line_refused m es k a b c h, line_refused m ds k a b d (rw same-refusal at h), ← same-refusal) (record { stands = same; answers = same_answer k _ }))

-- ---- whole scripts

module _ (m : Meaning) (a b : List ℕ) (D : DesksAlone a b) where
  -- a byte that is not the fourth of its line
  same_byte : (i : ℕ) → eqb (i % 4) 3 ≡ false → get_or a i 0 ≡ get_or b i 0
  unfolding is_desk
  same_byte i t = D.beside i (rw t)

  same_kind : (i : ℕ) → get_or a (i * 4) 0 ≡ get_or b (i * 4) 0
  same_kind i = same_byte (i * 4) (omega tests)

  desks_at : (i : ℕ) → Desks (get_or a (i * 4) 0) (get_or a (i * 4 + 3) 0) (get_or b (i * 4 + 3) 0)
  unfolding is_desk
  desks_at i =
      let fourth : eqb ((i * 4 + 3) % 4) 3 ≡ true = omega tests in
      let kind : (i * 4 + 3) - 3 ≡ i * 4 = omega arith in
      record {
        enters = λ e. D.desks (i * 4 + 3) (rw (fourth, kind, e));
        others = λ t. D.beside (i * 4 + 3) (rw (fourth, kind, t));
      }

  module _ (es ds : List Entry) (E : Entered m es) (F : Entered m ds) (same : without_desks es ≡ without_desks ds) where
    same-line_at : (i : ℕ) → without_desks (after m es a i) ≡ without_desks (after m ds b i) → Alike (get_or a (i * 4) 0) (line_at m a (after m es a i) i) (line_at m b (after m ds b i) i)
    unfolding line_at
    same-line_at i s =
        rw (← same_kind i, ← same_byte (i * 4 + 1) (omega tests), ← same_byte (i * 4 + 2) (omega tests))
        (same_line m (after m es a i) (after m ds b i) s _ _ _ _ _ (desks_at i) (after-keeps m es a E i) (after-keeps m ds b F i))

    -- before each line, and after the last, the same variables and values stand
    pub desks_after : (i : ℕ) → without_desks (after m es a i) ≡ without_desks (after m ds b i)
    unfolding after
    desks_after zero = same
    desks_after (suc i) = (same-line_at i (desks_after i)).stands

    -- and each line's answers differ at most in the desk told
    pub desks_answer : (i : ℕ) → SameButDesk (get_or a (i * 4) 0) (answer_at m es a i) (answer_at m ds b i)
    unfolding answer_at
    desks_answer i = (same-line_at i (desks_after i)).answers
