-- The frames of the prefix, step by step: runs of variables, the quantifiers over them, blocks. Assumes nothing.
use Rattle.std.specs.Prelude.{ℕ, suc, ◌+◌, ◌-◌, ◌*◌, ◌≤◌, ◌<◌, Bool, true, false, not, List, [], ◌∷◌, ◌++◌, ◌≡◌, length, get_or, drop, reverse}
use Rattle.std.proofs.Common.{add-zero, add-suc, suc-add, add-one, sym, ap, ◌∙◌, length-append, drop-cons, ne_eqb}
use native.Mathlib.Omega.{arith}
use Rattle.std.proofs.Math.Path.{refl}
use Rattle.std.proofs.lemmas.List.{get_or-reverse, get_or_default}
use Rattle.std.proofs.lemmas.List.Edits.{sets}
use Rattle.std.proofs.Math.Seq.{drop-length}
use Rattle.words.specs.Word.{bit}
use Rattle.sheet.specs.declared.Kind.{Kind}
use Rattle.prenex.specs.Kinds.{variables, Run, ended, runs_from, runs, quantifier, run_kinds, frame_bytes, sheet_bytes}
use Rattle.prenex.specs.Code.{even, word_kinds}
use Rattle.prenex.specs.Writing.{FitBytes}
use Rattle.prenex.proofs.PrefixLaws.{run-kinds-length}
use Rattle.prenex.proofs.StoreLaws.{sheet-none, sheet-one, store_append}

-- ---- the quantifiers of runs

run_kinds_append : (d : Bool) (rs qs : List Run) (n : ℕ) → run_kinds d (rs ++ qs) n ≡ run_kinds d rs n ++ run_kinds d qs (n + length rs)
unfolding run_kinds
run_kinds_append d [] qs n = rw add-zero
run_kinds_append d (r ∷ rs) qs n =
    ap (λ (ks : List Kind). quantifier d (n - 1) r.first r.size ∷ ks)
    (run_kinds_append d rs qs (suc n) ∙ ap (λ (k : ℕ). run_kinds d rs (suc n) ++ run_kinds d qs k) (suc-add n (length rs) ∙ sym (add-suc n (length rs))))

store_runs : (d : Bool) (rs qs : List Run) (out : List ℕ) (n : ℕ)
    → sets out (n * 4) (sheet_bytes (run_kinds d (rs ++ qs) n))
    ≡ sets (sets out (n * 4) (sheet_bytes (run_kinds d rs n))) ((n + length rs) * 4) (sheet_bytes (run_kinds d qs (n + length rs)))
store_runs d rs qs out n =
    ap (λ (ks : List Kind). sets out (n * 4) (sheet_bytes ks)) (run_kinds_append d rs qs n)
    ∙ store_append (run_kinds d rs n) (run_kinds d qs (n + length rs)) out n
    ∙ ap (λ (k : ℕ). sets (sets out (n * 4) (sheet_bytes (run_kinds d rs n))) ((n + k) * 4) (sheet_bytes (run_kinds d qs (n + length rs)))) (run-kinds-length d rs n)

pub quantifier_fits : (d : Bool) (a b c : ℕ) → a < 256 → b < 256 → c < 256 → FitBytes (quantifier d a b c)
quantifier_fits true a b c h k l = (h, k, l)
quantifier_fits false a b c h k l = (h, k, l)

-- ---- a run's end

module _ (d : Bool) (x c n : ℕ) (out : List ℕ) where
  pub run_none : c ≡ 0 → (n ≡ n + length (ended x c)) × (n ≤ n + 1) × (out ≡ sets out (n * 4) (sheet_bytes (run_kinds d (ended x c) n)))
  unfolding run_kinds
  run_none z = rw z (omega arith, omega arith, rw sheet-none)

  pub run-one : (out' : List ℕ) → (c ≡ 0 → ⊥) → out' ≡ sets out (n * 4) (frame_bytes (quantifier d (n - 1) (x - c) c))
      → (n + 1 ≡ n + length (ended x c)) × (n + 1 ≤ n + 1) × (out' ≡ sets out (n * 4) (sheet_bytes (run_kinds d (ended x c) n)))
  unfolding run_kinds
  run-one out' z o = rw (ne_eqb c 0 z) (refl, omega arith, o ∙ rw sheet-one)

-- ---- the runs of a block

from_end : (p : ℕ → Bool) (x c : ℕ) → runs_from p x c 0 ≡ ended x c
unfolding runs_from
from_end p x c = refl

from_has : (p : ℕ → Bool) (x c n : ℕ) → p x ≡ true → runs_from p x c (suc n) ≡ runs_from p (x + 1) (c + 1) n
unfolding runs_from
from_has p x c n e = rw (e, add-one x, add-one c)

from_lacks : (p : ℕ → Bool) (x c n : ℕ) → p x ≡ false → runs_from p x c (suc n) ≡ ended x c ++ runs_from p (x + 1) 0 n
unfolding runs_from
from_lacks p x c n e = rw (e, add-one x)

-- from frame `start` on: n frames stand once the variables below x had their turn, of which the c last are in no run yet,
-- and the stores that are left give what all give
module _ (d : Bool) (p : ℕ → Bool) (start : ℕ) (all : List ℕ) where
  pub record Runs (x c n : ℕ) (out : List ℕ) : Type 0 where
    pub before : c ≤ x
    pub least : start ≤ n
    pub few : n ≤ start + x
    pub counted : start + length (runs p) ≡ n + length (runs_from p x c (variables - x))
    pub stored : sets all (start * 4) (sheet_bytes (run_kinds d (runs p) start)) ≡ sets out (n * 4) (sheet_bytes (run_kinds d (runs_from p x c (variables - x)) n))

  pub runs-start : Runs 0 0 start all
  unfolding runs
  runs-start = record { before = omega arith; least = omega arith; few = omega arith; counted = refl; stored = refl }

  module _ (x c n : ℕ) (out : List ℕ) (s : Runs x c n out) where
    pub runs-end : variables ≤ x → (n' : ℕ) (out' : List ℕ) → n' ≡ n + length (ended x c) → out' ≡ sets out (n * 4) (sheet_bytes (run_kinds d (ended x c) n))
        → (n' ≡ start + length (runs p)) × (out' ≡ sets all (start * 4) (sheet_bytes (run_kinds d (runs p) start)))
    runs-end h n' out' e o =
        let z : variables - x ≡ 0 = omega arith in
        (e ∙ sym (rw (z, from_end p x c) at s.counted), o ∙ sym (rw (z, from_end p x c) at s.stored))

    module _ (h : x < variables) (n' c' : ℕ) (out' : List ℕ) where
      rest : variables - x ≡ suc (variables - (x + 1))
      rest = omega arith

      pub runs_has : p x ≡ true → c' ≡ c + 1 → n' ≡ n → out' ≡ out → Runs (x + 1) c' n' out'
      runs_has t g e o = record {
        before = omega (arith, s.before);
        least = omega (arith, s.least);
        few = omega (arith, s.few);
        counted = rw (e, g) (rw (rest, from_has p x c (variables - (x + 1)) t) at s.counted);
        stored = rw (e, g, o) (rw (rest, from_has p x c (variables - (x + 1)) t) at s.stored);
      }

      pub runs_lacks : p x ≡ false → c' ≡ 0 → n' ≡ n + length (ended x c) → n' ≤ n + 1 → out' ≡ sets out (n * 4) (sheet_bytes (run_kinds d (ended x c) n))
          → Runs (x + 1) c' n' out'
      runs_lacks t g e m o =
          let q = runs_from p (x + 1) 0 (variables - (x + 1)) in
          let k = rw (rest, from_lacks p x c (variables - (x + 1)) t) at s.counted in
          let l = rw (rest, from_lacks p x c (variables - (x + 1)) t) at s.stored in
          record {
            before = omega arith;
            least = omega (arith, s.least);
            few = omega (arith, s.few);
            counted = rw g (omega (arith, k, length-append (ended x c) q));
            stored = rw (g, e, o) (l ∙ store_runs d (ended x c) q out n);
          }

-- ---- the blocks, from the innermost on

pub kinds-none : (n : ℕ) → word_kinds [] n ≡ []
unfolding word_kinds
kinds-none n = refl

pub kinds-more : (m : ℕ) (ms : List ℕ) (n : ℕ) → word_kinds (m ∷ ms) n ≡ word_kinds ms n ++ run_kinds (even (length ms)) (runs (bit m)) (n + length (word_kinds ms n))
unfolding word_kinds
kinds-more m ms n = refl

even-more : (n : ℕ) → even (suc n) ≡ not (even n)
unfolding even
even-more n = refl

-- the k-th word from behind, where left words are before it
pub word_behind : (words : List ℕ) (k word left : ℕ) → word ≡ get_or (reverse words) k word → left + k + 1 ≡ length words → word ≡ get_or words left 0
word_behind words k word left e h =
    let i : length words - 1 - k ≡ left = omega arith in
    e ∙ get_or-reverse words k word (omega arith) ∙ rw i (get_or_default words left word 0 (omega arith))

-- the blocks from `left` on stand, and the next one is an exists or not
module _ (words : List ℕ) (start : ℕ) (all : List ℕ) where
  pub record Blocks (next : Bool) (left n : ℕ) (out : List ℕ) : Type 0 where
    pub within : left ≤ length words
    pub least : start ≤ n
    pub few : n + left * 33 ≤ start + length words * 33
    pub turn : next ≡ even (length (drop left words))
    pub counted : n ≡ start + length (word_kinds (drop left words) start)
    pub stored : out ≡ sets all (start * 4) (sheet_bytes (word_kinds (drop left words) start))

  pub blocks_start : Blocks true (length words) start all
  unfolding even
  blocks_start = record {
    within = omega arith;
    least = omega arith;
    few = omega arith;
    turn = rw drop-length;
    counted = rw (drop-length, kinds-none) (sym (add-zero start));
    stored = rw (drop-length, kinds-none, sheet-none);
  }

  module _ (next : Bool) (left n : ℕ) (out : List ℕ) (s : Blocks next left n out) where
    pub blocks_end : left ≡ 0 → (n ≡ start + length (word_kinds words start)) × (out ≡ sets all (start * 4) (sheet_bytes (word_kinds words start)))
    blocks_end z = (rw z at s.counted, rw z at s.stored)

    pub blocks_more : (left' n' word : ℕ) (out' : List ℕ) → left ≡ left' + 1 → word ≡ get_or words left' 0
        → n' ≡ n + length (runs (bit word)) → n' ≤ n + 33 → out' ≡ sets out (n * 4) (sheet_bytes (run_kinds next (runs (bit word)) n))
        → Blocks (not next) left' n' out'
    blocks_more left' n' word out' e w m f o =
        let h : left' < length words = omega (arith, s.within) in
        let k : left ≡ suc left' = e ∙ add-one left' in
        let ms = drop (suc left') words in
        let g : drop left' words ≡ word ∷ ms = drop-cons words left' 0 h ∙ rw w in
        let t : next ≡ even (length ms) = rw k at s.turn in
        let r : n ≡ start + length (word_kinds ms start) = rw k at s.counted in
        let b : out ≡ sets all (start * 4) (sheet_bytes (word_kinds ms start)) = rw k at s.stored in
        record {
          within = omega (arith, h);
          least = omega (arith, s.least);
          few = omega (arith, s.few);
          turn = rw (g, even-more, ← t);
          counted =
              rw (g, kinds-more, ← t, ← r)
              (omega (arith, m, r, length-append (word_kinds ms start) (run_kinds next (runs (bit word)) n), run-kinds-length next (runs (bit word)) n));
          stored = rw (g, kinds-more, ← t, ← r) (o ∙ sym (store_append (word_kinds ms start) (run_kinds next (runs (bit word)) n) all start ∙ rw (← r, ← b)));
        }
