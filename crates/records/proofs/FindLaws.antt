-- What the record finder hands back: which record of which table, the numbers of that part, and its place. Assumes nothing.
use Rattle.std.specs.Prelude.{◌≡◌, Option, None, Some, Bool, List, ℕ, ◌<◌, ◌≤◌, length, ltb}
use Rattle.std.proofs.Common.{◌∙◌, inl, inr, arith}
use Rattle.std.specs.Borrow.{Bor}
use borrow.Author.Tests.{lt-ltb, le-ltb}
use Rattle.words.specs.Logic.{tests}
use Rattle.words.proofs.Logic.{by_bool}
use Rattle.formula.specs.Least.{least}
use Rattle.formula.proofs.Least.{least-hit, least_miss, least-is, least-none}
use Rattle.form.specs.Form.{room}
use Rattle.form.specs.declared.Form.{Form}
use Rattle.records.specs.declared.Hit.{Hit}
use Rattle.records.specs.declared.Hit.TheVariants.{Under, Over}
use Rattle.records.specs.Search.{FirstBelow, NoneBelow}
use Rattle.records.specs.Find.{Empty, Holding, Part, Says, agrees_at, first_at, hit, part_of, place_of}

-- ---- the least number that passes, by FirstBelow and NoneBelow

least_first : (p : ℕ → Bool) (count : ℕ) → least p 0 count < count → FirstBelow p count (least p 0 count)
least_first p count h = record {
  counted = h;
  hit = least-hit p 0 count (omega arith);
  none_before = λ i l. least_miss p 0 count i (omega arith) l;
}

least_nowhere : (p : ℕ → Bool) (count : ℕ) → count ≤ least p 0 count → NoneBelow p count
least_nowhere p count h i l = least_miss p 0 count i (omega arith) (omega arith)

pub first-least : {p : ℕ → Bool} {count j : ℕ} → FirstBelow p count j → least p 0 count ≡ j
first-least {p} {count} {j} f = least-is p 0 count j (omega arith) (omega (arith, f.counted)) f.hit (λ k l h. f.none_before k h)

pub none-least : (p : ℕ → Bool) (count : ℕ) → NoneBelow p count → least p 0 count ≡ count
none-least p count f = least-none p 0 count (λ k l h. f k (omega arith)) ∙ omega arith

-- ---- each case of the finder

module _ (F : Form) (u : List ℕ) (m : ℕ) (o : List ℕ) (n frame setting : ℕ) where
  pub hit_under_full : room F (length u) < m → hit F u m o n frame setting ≡ None
  unfolding hit
  hit_under_full h = rw (lt-ltb (room F (length u)) m h)

  pub hit-over-full : room F (length o) < n → hit F u m o n frame setting ≡ None
  unfolding hit
  hit-over-full h = by_bool (ltb (room F (length u)) m) (λ e. rw e) (λ e. rw (e, lt-ltb (room F (length o)) n h))

  module _ (l : m ≤ room F (length u)) (k : n ≤ room F (length o)) where
    pub hit_under : {j : ℕ} → first_at F u m frame setting ≡ j → j < m → hit F u m o n frame setting ≡ Some (Under j)
    unfolding hit
    hit_under {j} e h = rw (le-ltb (room F (length u)) m l, le-ltb (room F (length o)) n k, e, lt-ltb j m h)

    pub hit-over : {j : ℕ} → first_at F u m frame setting ≡ m → first_at F o n frame setting ≡ j → j < n → hit F u m o n frame setting ≡ Some (Over j)
    unfolding hit
    hit-over {j} e d h = rw (le-ltb (room F (length u)) m l, le-ltb (room F (length o)) n k, e, le-ltb m m (omega arith), d, lt-ltb j n h)

    pub hit_neither : first_at F u m frame setting ≡ m → first_at F o n frame setting ≡ n → hit F u m o n frame setting ≡ None
    unfolding hit
    hit_neither e d = rw (le-ltb (room F (length u)) m l, le-ltb (room F (length o)) n k, e, le-ltb m m (omega arith), d, le-ltb n n (omega arith))

module _ (F : Form) (u : List ℕ) (m : ℕ) (o : List ℕ) (n frame setting : ℕ) where
  pub hit_says : Says F u m o n frame setting (hit F u m o n frame setting)
  unfolding hit
  hit_says =
      by_bool (ltb (room F (length u)) m)
      (λ a. rw a (inl (omega tests)))
      (λ a. by_bool (ltb (room F (length o)) n)
      (λ b. rw (a, b) (inr (inl (omega tests))))
      (λ b. by_bool (ltb (first_at F u m frame setting) m)
      (λ c. rw (a, b, c) (omega tests, omega tests, least_first (agrees_at F u frame setting) m (omega tests)))
      (λ c. let none = least_nowhere (agrees_at F u frame setting) m (omega tests) in
      by_bool (ltb (first_at F o n frame setting) n)
      (λ d. rw (a, b, c, d) (omega tests, omega tests, none, least_first (agrees_at F o frame setting) n (omega tests)))
      (λ d. rw (a, b, c, d) (inr (inr (none, least_nowhere (agrees_at F o frame setting) n (omega tests))))))))

  pub says_of : {r h : Option Hit} → r ≡ hit F u m o n frame setting → r ≡ h → Says F u m o n frame setting h
  says_of d e = rw (← d, e) at hit_says

-- ---- what is handed back, in words

module _ (F : Form) (u : Bor (List ℕ)) (m : ℕ) (o : Bor (List ℕ)) (n frame setting : ℕ) (r : Bor (List ℕ))
    (part : Part F u o r (hit F u.now m o.now n frame setting)) where
  pub finds_under : {j : ℕ} → m ≤ room F (length u.now) → n ≤ room F (length o.now) → FirstBelow (agrees_at F u.now frame setting) m j → Holding F u r j
  unfolding part_of place_of
  finds_under {j} l k f =
      let e = hit_under F u.now m o.now n frame setting l k (first-least f) f.counted in
      record { numbers = rw e at part.numbers; place = rw e at part.place }

  pub finds_over : {j : ℕ} → m ≤ room F (length u.now) → n ≤ room F (length o.now) → NoneBelow (agrees_at F u.now frame setting) m
      → FirstBelow (agrees_at F o.now frame setting) n j → Holding F o r j
  unfolding part_of place_of
  finds_over {j} l k g f =
      let e = hit-over F u.now m o.now n frame setting l k (none-least (agrees_at F u.now frame setting) m g) (first-least f) f.counted in
      record { numbers = rw e at part.numbers; place = rw e at part.place }

  nothing : hit F u.now m o.now n frame setting ≡ None → Empty u r
  unfolding part_of place_of
  nothing e = record { numbers = rw e at part.numbers; place = rw e at part.place }

  -- a count over its table's room, whatever the other table holds
  pub overfull_under : room F (length u.now) < m → Empty u r
  overfull_under h = nothing (hit_under_full F u.now m o.now n frame setting h)

  pub overfull_over : room F (length o.now) < n → Empty u r
  overfull_over h = nothing (hit-over-full F u.now m o.now n frame setting h)

  pub finds_nothing : NoneBelow (agrees_at F u.now frame setting) m → NoneBelow (agrees_at F o.now frame setting) n → Empty u r
  finds_nothing g h =
      by_bool (ltb (room F (length u.now)) m)
      (λ a. overfull_under (omega tests))
      (λ a. by_bool (ltb (room F (length o.now)) n)
      (λ b. overfull_over (omega tests))
      (λ b. nothing (hit_neither F u.now m o.now n frame setting (omega tests) (omega tests)
      (none-least (agrees_at F u.now frame setting) m g) (none-least (agrees_at F o.now frame setting) n h))))
