-- What is asked of a sheet, as a formula: FORALL over one mask above EXISTS over another. The question for its truth, and where its reasons lie. Assumes nothing.
use Rattle.std.specs.Prelude.{ℕ, ◌<◌, ◌≡◌, refl, Bool, true, false, not, ◌&&◌, ◌||◌, List}
use Rattle.std.proofs.Common.{arith, sym, ◌∙◌, ap}
use Rattle.std.specs.Int.Bits.{bit_or, bit_and, or_zero_r, and_zero_r}
use Rattle.words.proofs.Logic.{clash, or-false}
use Rattle.words.specs.Word.{bit}
use Rattle.words.proofs.Bits.{bit-or, bit-none}
use Rattle.words.specs.Mask.{Sub, Apart, without}
use Rattle.words.proofs.Mask.{bit-without, sub-bits, sub_refl, bits_apart, sub_trans, none-sub, without_sub, without-apart, or_apart, apart-sub, apart-sym, apart-bits, without-sum}
use Rattle.cube.specs.Cube.{Made}
use Rattle.cube.proofs.CubeLaws.{made_sub}
use Rattle.formula.specs.Assignment.{Assignment}
use Rattle.formula.specs.Formula.{Formula, free}
use Rattle.formula.specs.Reason.{Explains}
use Rattle.formula.specs.Over.{over}
use Rattle.formula.proofs.Over.{over-free, over_none, bounded-over}
use Rattle.formula.specs.Ask.{Bounded}
use Rattle.sheet.specs.Fields.{Sheet, variables}
use Rattle.net.specs.Stands.{Serves, over_serves}
use Rattle.net.specs.Layout.{free_of}
use Rattle.imply.specs.Halves.{apart-inside}
use Rattle.solver.specs.Contract.{root, Ready}
use Rattle.solver.specs.Across.{root_serves, bit_opens}
use Rattle.solver.specs.Question.{asked, Asking}
use Rattle.solver.specs.Ask.{ready_some, ready_bounded}

-- what is asked of a sheet: that for every setting of `all` some setting of `some` makes it hold
abbrev pub asked_of : Sheet → ℕ → ℕ → Formula
asked_of s all some = over false all (over true some (root s))

-- the masks of an aim are free variables, apart from each other and from m
pub record Aimed (net : List ℕ) (all some m : ℕ) : Type 0 where
  pub all-free : Sub all (free_of net)
  pub some-free : Sub some (free_of net)
  pub some-all : Apart some all
  pub fixed : Apart (bit_or some all) m

-- ---- an aim, over fewer variables, and without quantifiers

pub aimed_less : {net : List ℕ} {all some m m' : ℕ} → Aimed net all some m → Sub m' m → Aimed net all some m'
aimed_less A i = record { all-free = A.all-free; some-free = A.some-free; some-all = A.some-all; fixed = apart-sub A.fixed i }

none_apart : (a : ℕ) → Apart 0 a
none_apart a = apart-bits 0 a (λ k e. clash (bit 0 k) e (bit-none k))

pub aimed_none : (net : List ℕ) (m : ℕ) → Aimed net 0 0 m
aimed_none net m = record { all-free = none-sub (free_of net); some-free = none-sub (free_of net); some-all = none_apart 0; fixed = or_apart (none_apart m) (none_apart m) }

pub asked-none : (s : Sheet) → asked_of s 0 0 ≡ root s
asked-none s = over_none false (over true 0 (root s)) ∙ over_none true (root s)

-- ---- what is asked of a sheet that is ready, and of its net

module _ {s : Sheet} {net : List ℕ} {m y : ℕ} {u : List ℕ} {cu : ℕ} {o : List ℕ} {co : ℕ} (R : Ready s net m y u cu o co)
    {all some : ℕ} (A : Aimed net all some m) where
  pub aimed_serves : Serves (asked_of s all some) (asked net all some)
  aimed_serves = over_serves false all (over_serves true some (root_serves R.net_of))

  pub aimed_bounded : Bounded (variables s) (asked_of s all some)
  aimed_bounded = bounded-over false all (bounded-over true some (ready_bounded R))

  -- it hangs on the free variables that are in neither mask
  aimed_free : (k : ℕ) → free (asked_of s all some) k ≡ bit (without (free_of net) (bit_or some all)) k
  aimed_free k =
      over-free false all (over true some (root s)) k
      ∙ ap (λ (b : Bool). b && not (bit all k)) (over-free true some (root s) k ∙ ap (λ (b : Bool). b && not (bit some k)) (sym (bit_opens R.net_of k)))
      ∙ go (bit (free_of net) k) (bit some k) (bit all k)
      ∙ sym (bit-without (free_of net) (bit_or some all) k ∙ ap (λ (b : Bool). bit (free_of net) k && not b) (bit-or some all k))
    where
      go : (a b c : Bool) → (a && not b) && not c ≡ a && not (b || c)
      go true true c = refl
      go true false c = refl
      go false b c = refl

  -- the variables that it hangs on are q, and those of q off m' are loose
  module _ {q loose m' : ℕ} (eq : q ≡ without (free_of net) (bit_or some all)) (el : loose ≡ without q m') where
    pub off_cube : Apart loose m'
    off_cube = rw el (without-apart q m')

    -- a reason that avoids the loose variables lies in m'
    pub aimed_inside : {r : ℕ} {v : Bool} {w : Assignment} → Explains (asked_of s all some) v (bit r) w → Apart r loose → Sub r m'
    aimed_inside {r} E a = sub-bits r m' (λ k e.
        go (bit q k) (bit m' k) (ap (λ (x : ℕ). bit x k) eq ∙ sym (aimed_free k) ∙ E.inside k e) (sym (bit-without q m' k) ∙ ap (λ (x : ℕ). bit x k) (sym el) ∙ bits_apart a k e))
      where
        go : (a b : Bool) → a ≡ true → (a && not b) ≡ false → b ≡ true
        go true true e f = refl
        go true false e f = sym f
        go false b e f = clash false e refl

    -- the question for its truth t over a cube m', w of variables of m
    pub aimed_asking : (t : ℕ) {w : ℕ} → 0 < t → t < 3 → Sub m' m → Sub w m' → Asking s net t loose all some m' w u cu o co
    aimed_asking t a b i j = record {
      masks = record {
        net_of = R.net_of;
        frames = ready_some R;
        target_some = a;
        target_low = b;
        loose_free = rw (el, eq) (sub_trans (without_sub (without (free_of net) (bit_or some all)) m') (without_sub (free_of net) (bit_or some all)));
        all-free = A.all-free;
        some-free = A.some-free;
        some-all = A.some-all;
        inner_loose = rw (el, eq) (apart-sym (apart-inside (without_sub (without (free_of net) (bit_or some all)) m') (without-apart (free_of net) (bit_or some all))));
      };
      assigned = sub_trans i R.entered;
      valued = j;
      fixed = or_apart (apart-sub A.fixed i) off_cube;
      whole = λ x f e.
          let p = or-false (bit (bit_or some all) x) (bit loose x) (sym (bit-or (bit_or some all) loose x) ∙ e) in
          go (bit (free_of net) x) (bit (bit_or some all) x) (bit m' x) f p.0
          (sym (ap (λ (z : ℕ). bit z x) el ∙ bit-without q m' x
          ∙ ap (λ (d : Bool). d && not (bit m' x)) (ap (λ (z : ℕ). bit z x) eq ∙ bit-without (free_of net) (bit_or some all) x)) ∙ p.1);
      tables = R.tables;
    }
      where
        go : (a b c : Bool) → a ≡ true → b ≡ false → ((a && not b) && not c) ≡ false → c ≡ true
        go true true c e f h = clash true refl f
        go true false true e f h = refl
        go true false false e f h = sym h
        go false b c e f h = clash false e refl

-- ---- the last frame itself, where every free variable that is not entered is loose

module _ {s : Sheet} {net : List ℕ} {mask values : ℕ} {u : List ℕ} {cu : ℕ} {o : List ℕ} {co : ℕ} (R : Ready s net mask values u cu o co)
    {f loose m w : ℕ} (ef : f ≡ free_of net) (el : loose ≡ without f mask) (M : Made mask values m w) where
  pub plain_reach : f ≡ without (free_of net) (bit_or 0 0)
  plain_reach = omega (arith, ef, without-sum (free_of net) (bit_or 0 0), ap (bit_and (free_of net)) (or_zero_r 0) ∙ and_zero_r (free_of net))

  pub plain_asking : Asking s net 2 loose 0 0 m w u cu o co
  plain_asking = aimed_asking R (aimed_none net mask) plain_reach (rw M.mask el) 2 (omega arith) (omega arith) (rw M.mask (sub_refl mask)) (made_sub M)
