-- Setting the loose variables keeps a search on its way; where every lane is hit it is found, where none is it is lost. Assumes nothing.
use Rattle.std.specs.Prelude.{ℕ, ◌+◌, ◌≤◌, ◌<◌, ◌^◌, ◌≡◌, refl, Bool, true, false, ◌⊎◌, List, eqb}
use Rattle.std.proofs.Common.{arith, sym, ◌∙◌, ap, inl, inr, eqb-true, eq-eqb}
use Rattle.std.specs.Int.Bits.{bit_and, bit_or}
use Rattle.words.specs.Logic.{tests}
use Rattle.words.proofs.Logic.{by_bool, clash}
use Rattle.words.specs.Word.{bit}
use Rattle.words.proofs.Bits.{bit-pow}
use Rattle.words.specs.Mask.{Sub, Apart, Top, without}
use Rattle.words.proofs.Mask.{top_bit, apart-sub, apart-sym, without_sub, without-apart, or_apart, or-sum, bits_apart, bits_sub, one-sub}
use Rattle.words.proofs.Mask.{sub-or-left, sub-or-right}
use Rattle.formula.specs.Formula.{Formula}
use Rattle.net.specs.Layout.{val}
use Rattle.imply.specs.Posed.{Met, Lost}
use Rattle.imply.specs.Halves.{met_known, met_low, met_up, put_low, put-high, apart-inside}
use Rattle.lanes.specs.Pattern.{Half}
use Rattle.lanes.specs.Lanes.{place, ones, Hit, drop}
use Rattle.lanes.proofs.LanesLaws.{hit-true, hit-false, hit-none, hit-all, hit_same, hit-free, hit-half, drop-other}
use Rattle.lanes.specs.Fill.{Row, Seated}
use Rattle.lanes.specs.Settle.{Narrowed, Onward, Aimed}

module _ {f : Formula} {v : Bool} {loose w : ℕ} {ps : List ℕ} where
  pub narrowed_start : {r q h : ℕ} → Hit f v (place ps) w r q h → Apart r loose → Apart q loose → Apart w loose → Narrowed f v loose w ps loose w r q h
  narrowed_start H i g j = record { at = place ps; hit = H; kept = λ x e. refl; apart = i; apart-not = g; clear = j; onto = λ free z y m. m }

  pub narrowed_none : {r q h : ℕ} → Narrowed f v loose w ps loose w r q h → h ≡ 0 → Lost f v loose w q
  narrowed_none N e = record { explains = hit-none N.hit e; apart = N.apart-not }

  pub narrowed_all : {rest word r q h : ℕ} → Narrowed f v loose w ps rest word r q h → h ≡ ones → (free : ℕ) → Met f v free loose w word r
  narrowed_all {rest} {word} {r} N e free = N.onto free word r (met_known rest (hit-all N.hit e))

  module _ {rest word r q h x p rest' : ℕ} (N : Narrowed f v loose w ps rest word r q h) (T : Top rest x) (ep : p ≡ 2 ^ x) (er : rest' ≡ without rest p) where
    left : rest' ≡ without rest (2 ^ x)
    left = er ∙ ap (without rest) ep

    left-sub : Sub rest' rest
    left-sub = rw left (without_sub rest (2 ^ x))

    kept-drop : (y : ℕ) → bit rest' y ≡ true → drop N.at x y ≡ place ps y
    kept-drop y e =
        drop-other N.at x y (by_bool (eqb y x)
        (λ q. clash (bit rest' y) e (ap (bit rest') (eqb-true y x q) ∙ ap (λ (z : ℕ). bit z x) left ∙ bits_apart (apart-sym (without-apart rest (2 ^ x))) x (bit-pow x x ∙ eq-eqb x x refl)))
        (λ q. q))
        ∙ N.kept y (bits_sub left-sub y e)

    lane : place ps x < 6 → N.at x < 6
    lane i = rw (N.kept x (top_bit T)) i

    onto_low : (free z y : ℕ) → Met f v free rest' word z y → Met f v free loose w z y
    onto_low free z y m = N.onto free z y (met_low T N.clear (rw left at m))

    -- no lane: it is left at 0
    pub narrowed_idle : Narrowed f v loose w ps rest' word r q h
    narrowed_idle = record {
      at = N.at;
      hit = N.hit;
      kept = λ y e. N.kept y (bits_sub left-sub y e);
      apart = apart-sub N.apart left-sub;
      apart-not = apart-sub N.apart-not left-sub;
      clear = apart-sub N.clear left-sub;
      onto = onto_low;
    }

    module _ {lo hi g : ℕ} (eq : place ps x ≡ g) (i : g < 6) (F : Half h g false lo) (G : Half h g true hi) where
      seat : N.at x < 6
      seat = lane (rw eq i)

      here : N.at x ≡ g
      here = N.kept x (top_bit T) ∙ eq

      low_half : Half h (N.at x) false lo
      low_half = rw here F

      high_half : Half h (N.at x) true hi
      high_half = rw here G

      -- it does not matter
      pub narrowed_same : lo ≡ hi → Narrowed f v loose w ps rest' word r q lo
      narrowed_same e = record {
        at = drop N.at x;
        hit = hit_same N.hit seat low_half high_half e;
        kept = kept-drop;
        apart = apart-sub N.apart left-sub;
        apart-not = apart-sub N.apart-not left-sub;
        clear = apart-sub N.clear left-sub;
        onto = onto_low;
      }

      joined-apart : {z : ℕ} → Apart z rest → Apart (bit_or z (2 ^ x)) rest'
      joined-apart c = or_apart (apart-sub c left-sub) (rw left (apart-sym (without-apart rest (2 ^ x))))

      low-hit : (lo ≡ hi → ⊥) → Hit f v (drop N.at x) word (bit_or r (2 ^ x)) (bit_or q (2 ^ x)) lo
      low-hit n = rw (put_low T N.clear) at (hit-half N.hit seat false low_half (hit-free N.hit seat low_half high_half n))

      high-hit : (lo ≡ hi → ⊥) → Hit f v (drop N.at x) (word + 2 ^ x) (bit_or r (2 ^ x)) (bit_or q (2 ^ x)) hi
      high-hit n = rw (put-high T N.clear) at (hit-half N.hit seat true high_half (hit-free N.hit seat low_half high_half n))

      -- it is 0
      pub narrowed_low : (lo ≡ hi → ⊥) → Narrowed f v loose w ps rest' word (bit_or r p) (bit_or q p) lo
      narrowed_low n = rw ep (record {
        at = drop N.at x;
        hit = low-hit n;
        kept = kept-drop;
        apart = joined-apart N.apart;
        apart-not = joined-apart N.apart-not;
        clear = apart-sub N.clear left-sub;
        onto = onto_low;
      })

      -- it must be 1
      pub narrowed_high : (lo ≡ hi → ⊥) → lo ≡ 0 → Narrowed f v loose w ps rest' (bit_or word p) (bit_or r p) (bit_or q p) hi
      narrowed_high n e = rw (ep, sum) (record {
        at = drop N.at x;
        hit = high-hit n;
        kept = kept-drop;
        apart = joined-apart N.apart;
        apart-not = joined-apart N.apart-not;
        clear = rw (sym sum) (or_apart (apart-sub N.clear left-sub) (rw left (apart-sym (without-apart rest (2 ^ x)))));
        onto = λ free z y m. N.onto free z y (met_up T N.clear (λ s. (bit_or q (2 ^ x), rw left at lost)) (rw left at m));
      })
        where
          sum : bit_or word (2 ^ x) ≡ word + 2 ^ x
          sum = or-sum (apart-sub N.clear (one-sub x (top_bit T)))

          lost : Lost f v rest' word (bit_or q (2 ^ x))
          lost = record { explains = hit-none (low-hit n) e; apart = joined-apart N.apart-not }

-- ---- the same as the code has them

pub onward-none : {ps : List ℕ} {rest word r q h : ℕ} → Onward ps rest word r q h rest word r q h
onward-none = record { keeps = λ N. N }

pub onward-more : {ps : List ℕ} {rest word r q h rest' word' r' q' h' rest'' word'' r'' q'' h'' : ℕ}
    → Onward ps rest word r q h rest' word' r' q' h' → Onward ps rest' word' r' q' h' rest'' word'' r'' q'' h'' → Onward ps rest word r q h rest'' word'' r'' q'' h''
onward-more F G = record { keeps = λ N. G.keeps (F.keeps N) }

module _ {ps : List ℕ} {rest word r q h x p rest' : ℕ} (T : Top rest x) (ep : p ≡ 2 ^ x) (er : rest' ≡ without rest p) where
  pub onward_idle : Onward ps rest word r q h rest' word r q h
  onward_idle = record { keeps = λ N. narrowed_idle N T ep er }

  module _ {lo hi g : ℕ} (eq : place ps x ≡ g) (i : g < 6) (F : Half h g false lo) (G : Half h g true hi) where
    pub onward-same : lo ≡ hi → Onward ps rest word r q h rest' word r q lo
    onward-same e = record { keeps = λ N. narrowed_same N T ep er eq i F G e }

    pub onward-low : (lo ≡ hi → ⊥) → Onward ps rest word r q h rest' word (bit_or r p) (bit_or q p) lo
    onward-low n = record { keeps = λ N. narrowed_low N T ep er eq i F G n }

    pub onward-high : (lo ≡ hi → ⊥) → lo ≡ 0 → Onward ps rest word r q h rest' (bit_or word p) (bit_or r p) (bit_or q p) hi
    onward-high n e = record { keeps = λ N. narrowed_high N T ep er eq i F G n e }

-- ---- the start: what a row says of each truth

pub narrowed_row : {f : Formula} {ps : List ℕ} {w z o t target r q h m loose top rest word : ℕ} → Row f ps w z o t → Seated ps m top → bit_and (bit_or z o) (bit_or m loose) ≤ 0
    → 0 < target → target < 3 → Aimed target z o t r q h → Apart w loose → rest ≡ loose → word ≡ w → Narrowed f (val target) loose w ps rest word r q h
unfolding val
narrowed_row {f} {ps} {w} {z} {o} {t} {target} {r} {q} {h} {m} {loose} R S e some few A c er ew =
    rw (er, ew) (narrowed_start hit (aimed_apart r why) (aimed_apart q why-not) c)
  where
    reasons_apart : Apart (bit_or z o) (bit_or m loose)
    reasons_apart = record { none = omega arith }

    zero-apart : Apart z (bit_or m loose)
    zero-apart = apart-inside (sub-or-left z o) reasons_apart

    one_apart : Apart o (bit_or m loose)
    one_apart = apart-inside (sub-or-right z o) reasons_apart

    no-lane : (y : ℕ) → Apart y (bit_or m loose) → (x : ℕ) → place ps x < 6 → bit y x ≡ false
    no-lane y d x i = bits_apart (apart-sym (apart-sub d (sub-or-left m loose))) x (S.among x i)

    is_one : eqb target 2 ≡ false → target ≡ 1
    is_one i = omega tests

    hit : Hit f (val target) (place ps) w r q h
    hit = by_bool (eqb target 2)
        (λ i. let y = eqb-true target 2 i in let b = A.one y in rw (y, b.0, b.1, b.2) (hit-true S.distinct R.one R.zero (no-lane o one_apart) (no-lane z zero-apart)))
        (λ i. let y = is_one i in let b = A.zero y in rw (y, b.0, b.1) (hit-false S.distinct R.one R.zero (no-lane o one_apart) (no-lane z zero-apart) b.2))

    aimed_apart : (y : ℕ) → (y ≡ z) ⊎ (y ≡ o) → Apart y loose
    aimed_apart y (inl i) = rw i (apart-sub zero-apart (sub-or-right m loose))
    aimed_apart y (inr i) = rw i (apart-sub one_apart (sub-or-right m loose))

    why : (r ≡ z) ⊎ (r ≡ o)
    why = by_bool (eqb target 2) (λ i. inr (A.one (eqb-true target 2 i)).0) (λ i. inl (A.zero (is_one i)).0)

    why-not : (q ≡ z) ⊎ (q ≡ o)
    why-not = by_bool (eqb target 2) (λ i. inl (A.one (eqb-true target 2 i)).1) (λ i. inr (A.zero (is_one i)).1)
