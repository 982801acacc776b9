-- What a search of a table finds. Assumes nothing.
use Rattle.std.specs.Prelude.{◌≡◌, Bool, List, ℕ}
use Rattle.std.proofs.Common.{sym, ◌∙◌, inr}
use Rattle.form.specs.declared.Form.{Form}
use Rattle.records.specs.Table.{matches, Kept}
use Rattle.records.specs.Search.{FirstBelow, NoneBelow}

-- what is found is kept
pub first-kept : (F : Form) (t : List ℕ) (count frame assigned setting : ℕ) {j : ℕ} → FirstBelow (matches F t frame assigned setting) count j → Kept F t count frame assigned setting
first-kept F t count frame assigned setting {j} f = inr (j, f.counted, f.hit)

-- two tests with the same outcomes
pub first-same : {p : ℕ → Bool} {count j : ℕ} (q : ℕ → Bool) → ((i : ℕ) → p i ≡ q i) → FirstBelow p count j → FirstBelow q count j
first-same {j = j} q e f = record { counted = f.counted; hit = sym (e j) ∙ f.hit; none_before = λ i l. sym (e i) ∙ f.none_before i l }

pub none-same : (p q : ℕ → Bool) (n : ℕ) → ((i : ℕ) → p i ≡ q i) → NoneBelow p n → NoneBelow q n
none-same p q n e f i l = sym (e i) ∙ f i l
