-- READ lines show every entry: two lists of entries are equal, or one READ line tells them apart. Assumes nothing.
use Rattle.std.specs.Prelude.{◌/◌, ◌%◌, ◌^◌, ℕ, suc, ◌≤◌, ◌<◌, ◌≡◌, refl, ◌⊎◌, List, [], ◌∷◌, length, get_or, eqb, ltb}
use Rattle.std.proofs.Common.{arith, sym, ap, ap₂, ◌∙◌, inl, inr, ⊎_elim}
use Rattle.words.specs.Logic.{tests}
use Rattle.words.proofs.Logic.{by_bool}
use Rattle.sheet.specs.Refusal as Number
use Rattle.model.specs.declared.Entry.{Entry}
use Rattle.model.specs.Model.{Meaning, Answer, answer_bytes, Reply, told, refused, READ, line, line_at, after, answer_at, answers_to}
use Rattle.model.specs.Entries.{Entered, entry_at}
use Rattle.model.proofs.KindsLaws.{read_line}
use Rattle.model.specs.Script.{each_byte}
use Rattle.model.proofs.Script.{answer_bytes_are}
use Rattle.form.specs.declared.Form.{Form}
use Rattle.form.specs.declared.Form.TheVariants.{Narrow, Wide}
use Rattle.model.proofs.Refused.{read_past}
use Rattle.model.specs.Read.{FirstDifference, read_script}

entry-is : {e d : Entry} → e.variable ≡ d.variable → e.value ≡ d.value → e.desk ≡ d.desk → e ≡ d
entry-is v w k = λ i. record { variable = v i; value = w i; desk = k i }

same-or-other : (e d : Entry) → (e ≡ d) ⊎ (e ≡ d → ⊥)
same-or-other e d = by_bool (eqb e.variable d.variable)
    (λ v. by_bool (eqb e.value d.value)
    (λ w. by_bool (eqb e.desk d.desk)
    (λ k. inl (entry-is (omega tests) (omega tests) (omega tests)))
    (λ k. inr (λ s. let z : e.desk ≡ d.desk = ap (λ (x : Entry). x.desk) s in omega tests)))
    (λ w. inr (λ s. let z : e.value ≡ d.value = ap (λ (x : Entry). x.value) s in omega tests)))
    (λ v. inr (λ s. let z : e.variable ≡ d.variable = ap (λ (x : Entry). x.variable) s in omega tests))

pub first_difference : (es ds : List Entry) → (es ≡ ds) ⊎ ((i : ℕ) × FirstDifference es ds i)
first_difference [] [] = inl refl
first_difference [] (d ∷ ds) = inr (0, record { before = refl; reach = (omega arith, omega arith); apart = λ h l s. absurd (omega arith); ends = λ h l. omega arith })
first_difference (e ∷ es) [] = inr (0, record { before = refl; reach = (omega arith, omega arith); apart = λ h l s. absurd (omega arith); ends = λ h l. omega arith })
first_difference (e ∷ es) (d ∷ ds) = ⊎_elim
    (λ t. ⊎_elim (λ s. inl (ap₂ ◌∷◌ t s)) (λ r. inr (suc r.0, later t r.0 r.1)) (first_difference es ds))
    (λ t. inr (0, record { before = refl; reach = (omega arith, omega arith); apart = λ h l s. t s; ends = λ h l. omega arith }))
    (same-or-other e d)
  where
    later : e ≡ d → (i : ℕ) → FirstDifference es ds i → FirstDifference (e ∷ es) (d ∷ ds) (suc i)
    later s i F = record {
      before = ap₂ ◌∷◌ s F.before;
      reach = omega (arith, F.reach);
      apart = λ h l. F.apart (omega arith) (omega arith);
      ends = λ h l. F.ends (omega arith) (omega arith);
    }

-- what it answers
pub read_bytes : (F : Form) (m : Meaning) (es : List Entry) (i : ℕ) → answers_to F m es (read_script i) 1 ≡ answer_bytes F (line m es READ i 0 0).answer
unfolding answers_to answer_at after line_at
read_bytes F m es i = refl

-- equal bytes have equal V, and words that are equal in their last two bytes
told_v : (F : Form) (x y : Answer) → each_byte F x ≡ each_byte F y → x.v ≡ y.v
told_v Narrow x y t = ap (λ (b : List ℕ). get_or b 1 0) t
told_v Wide x y t = ap (λ (b : List ℕ). get_or b 1 0) t

told-word : (F : Form) (x y : Answer) → each_byte F x ≡ each_byte F y → (x.word / 2 ^ 8 % 256 ≡ y.word / 2 ^ 8 % 256) × (x.word % 256 ≡ y.word % 256)
told-word Narrow x y t = (ap (λ (b : List ℕ). get_or b 4 0) t, ap (λ (b : List ℕ). get_or b 5 0) t)
told-word Wide x y t = (ap (λ (b : List ℕ). get_or b 8 0) t, ap (λ (b : List ℕ). get_or b 9 0) t)

-- an entry's answer is that entry's alone
told_entry : (F : Form) {m : Meaning} {es ds : List Entry} (i : ℕ) → Entered m es → Entered m ds → i < length es → i < length ds
    → answer_bytes F (told (entry_at es i)) ≡ answer_bytes F (told (entry_at ds i)) → entry_at es i ≡ entry_at ds i
told_entry F {es = es} {ds = ds} i a b h l s =
    let t = sym (answer_bytes_are F (told (entry_at es i))) ∙ s ∙ answer_bytes_are F (told (entry_at ds i)) in
    let w = told-word F (told (entry_at es i)) (told (entry_at ds i)) t in
    entry-is (told_v F (told (entry_at es i)) (told (entry_at ds i)) t)
    (omega (arith, w.1, a.valued i h, b.valued i l))
    (omega (arith, w.0, a.valued i h, b.valued i l, a.desked i h, b.desked i l))

-- and no refusal's
told-refused : (F : Form) (e : Entry) (n : ℕ) → 0 < n → answer_bytes F (told e) ≡ answer_bytes F (refused n) → ⊥
unfolding answer_bytes
told-refused F e n h s = let z : 0 ≡ n = ap (λ (b : List ℕ). get_or b 0 0) s in omega arith

module _ (F : Form) {m : Meaning} {es ds : List Entry} (a : Entered m es) (b : Entered m ds) (i : ℕ) (D : FirstDifference es ds i) where
  pub read_shows : answers_to F m es (read_script i) 1 ≡ answers_to F m ds (read_script i) 1 → ⊥
  read_shows s = by_bool (ltb i (length es))
      (λ t. by_bool (ltb i (length ds))
      (λ u. D.apart (omega tests) (omega tests) (told_entry F i a b (omega tests) (omega tests)
      (sym (there es (omega tests)) ∙ bytes ∙ there ds (omega tests))))
      (λ u. told-refused F (entry_at es i) Number.no_entry_there (omega arith) (sym (there es (omega tests)) ∙ bytes ∙ past ds (omega tests))))
      (λ t. by_bool (ltb i (length ds))
      (λ u. told-refused F (entry_at ds i) Number.no_entry_there (omega arith) (sym (there ds (omega tests)) ∙ sym bytes ∙ past es (omega tests)))
      (λ u. D.ends (omega (tests, D.reach)) (omega (tests, D.reach))))
    where
      bytes : answer_bytes F (line m es READ i 0 0).answer ≡ answer_bytes F (line m ds READ i 0 0).answer
      bytes = sym (read_bytes F m es i) ∙ s ∙ read_bytes F m ds i

      there : (l : List Entry) → i < length l → answer_bytes F (line m l READ i 0 0).answer ≡ answer_bytes F (told (entry_at l i))
      there l h = ap (λ (r : Reply). answer_bytes F r.answer) (read_line m l i h)

      past : (l : List Entry) → length l ≤ i → answer_bytes F (line m l READ i 0 0).answer ≡ answer_bytes F (refused Number.no_entry_there)
      past l h = ap (λ (r : Reply). answer_bytes F r.answer) (read_past m l i h)
