-- What the check of a sheet computes: words of the variables that frames bind, name and have free, and its answer. Assumes nothing.
use Rattle.std.specs.Prelude.{ℕ, ◌^◌, ◌<◌, ◌≡◌, refl, Bool, true, false, not, ◌&&◌, List, [], ◌∷◌, eqb, ltb}
use Rattle.std.proofs.Common.{sym, ◌∙◌, ap, ap₂, subst, lt_of_le_of_lt, pow_pos}
use Rattle.std.proofs.Math.Path.{fun_ext}
use Rattle.std.proofs.Math.Pow.{pow-lt}
use Rattle.std.specs.Int.Bits.{bit_and, bit_or}
use Rattle.std.proofs.lemmas.Nat.{and_le_l}
use borrow.Author.Tests.{eq-eqb, eqb-true}
use Rattle.words.specs.Logic.{tests}
use Rattle.words.proofs.Logic.{by_bool, clash}
use Rattle.words.specs.Word.{bit}
use Rattle.words.proofs.Bits.{bit-and, bit-none, bit-pow, bit_high, ext}
use Rattle.words.specs.Mask.{without, range_mask}
use Rattle.words.proofs.Mask.{bit-range_mask, range-lt}
use Rattle.formula.specs.Assignment.{within}
use Rattle.formula.specs.Formula.{Formula}
use Rattle.formula.specs.Ask.{free_mask}
use Rattle.formula.proofs.FreeMask.{free_mask-never, free_mask-input, free_mask-neg, free_mask-gate, free_mask-quant}
use Rattle.sheet.specs.Cause.{Cause, Refusal, first, some_holds, Numbered, Foremost}
use Rattle.sheet.proofs.Cause.{first-none, none_first, first_foremost}
use Rattle.sheet.specs.Refusal as Number
use Rattle.form.specs.Form.{variables}
use Rattle.sheet.specs.Fields.{Sheet}
use Rattle.sheet.specs.Frames.{formula, build, Fit}
use Rattle.sheet.specs.Rules as Rules
use Rattle.sheet.specs.Rules.{last, bad_variables, cause, binds, names_input, names_gauge, Past, meet, named_both, binds_gauge}
use Rattle.sheet.proofs.RuleLaws.{meet-none, none-meet, range-fits}
use Rattle.form.specs.declared.Form.{Form}
use Rattle.sheet.specs.declared.Kind.{Kind}
use Rattle.sheet.specs.declared.Kind.TheVariants.{Never, Input, Not, And, Or, Exists, Forall, Gauge}
use Rattle.sheet.specs.declared.rules.Seen.{Seen}
use Rattle.sheet.specs.Check.{Checks, FreeBelow, bound_mask, free_word, gauge_mask, input_mask, past_by, variables_fault}

module _ {cs : List Cause} {s : Sheet} {n p f g : ℕ} (c : Checks cs s n p f g) where
  -- number 0: no cause holds, and the words are those of the last frame's free variables and of the gauges
  pub checks_none : Numbered cs → n ≡ 0 → some_holds cs ≡ false
  checks_none m z = first-none cs m (sym c.number_is ∙ z)

  pub checks_free : some_holds cs ≡ false → f ≡ free_mask (variables s.form) (formula s (last s))
  checks_free e = c.free-is ∙ rw e

  pub checks_gauges : some_holds cs ≡ false → g ≡ Rules.gauges s
  checks_gauges e = c.gauges_are ∙ rw e

  -- any other: the foremost cause is told, and the words are 0
  checks_some : (n ≡ 0 → ⊥) → some_holds cs ≡ true
  checks_some z = by_bool (some_holds cs) (λ t. t) (λ t. absurd (z (c.number_is ∙ ap (λ (r : Refusal). r.number) (none_first cs t))))

  pub checks_foremost : (n ≡ 0 → ⊥) → Foremost cs (record { number = n; place = p })
  checks_foremost z =
      subst (Foremost cs) (ap₂ (λ (x y : ℕ). record { number = x; place = y }) (sym c.number_is) (sym c.place_is))
      (first_foremost cs (checks_some z))

  pub checks_unfree : (n ≡ 0 → ⊥) → f ≡ 0
  checks_unfree z = c.free-is ∙ rw (checks_some z)

  pub checks_ungauged : (n ≡ 0 → ⊥) → g ≡ 0
  checks_ungauged z = c.gauges_are ∙ rw (checks_some z)

bit-range : (b c v : ℕ) → bit (range_mask b c) v ≡ within b c v
unfolding within
bit-range b c v = bit-range_mask b c v

pub bit-bound_mask : (d : Kind) (v : ℕ) → bit (bound_mask d) v ≡ binds d v
unfolding bound_mask binds
bit-bound_mask Never v = bit-none v
bit-bound_mask (Input x) v = bit-none v
bit-bound_mask (Not a) v = bit-none v
bit-bound_mask (And a b) v = bit-none v
bit-bound_mask (Or a b) v = bit-none v
bit-bound_mask (Exists a b c) v = bit-range b c v
bit-bound_mask (Forall a b c) v = bit-range b c v
bit-bound_mask (Gauge x) v = bit-none v

pub bit-input_mask : (d : Kind) (v : ℕ) → bit (input_mask d) v ≡ names_input d v
unfolding input_mask names_input
bit-input_mask Never v = bit-none v
bit-input_mask (Input x) v = bit-pow x v
bit-input_mask (Not a) v = bit-none v
bit-input_mask (And a b) v = bit-none v
bit-input_mask (Or a b) v = bit-none v
bit-input_mask (Exists a b c) v = bit-none v
bit-input_mask (Forall a b c) v = bit-none v
bit-input_mask (Gauge x) v = bit-none v

pub bit-gauge_mask : (d : Kind) (v : ℕ) → bit (gauge_mask d) v ≡ names_gauge d v
unfolding gauge_mask names_gauge
bit-gauge_mask Never v = bit-none v
bit-gauge_mask (Input x) v = bit-none v
bit-gauge_mask (Not a) v = bit-none v
bit-gauge_mask (And a b) v = bit-none v
bit-gauge_mask (Or a b) v = bit-none v
bit-gauge_mask (Exists a b c) v = bit-none v
bit-gauge_mask (Forall a b c) v = bit-none v
bit-gauge_mask (Gauge x) v = bit-pow x v

pub freeWord-is : (n k : ℕ) (l : List ℕ) (g : ℕ → Formula) (d : Kind) → FreeBelow n k l g → Fit n k d → free_word l d ≡ free_mask n (build g d)
unfolding free_word build
freeWord-is n k l g Never h w = sym (free_mask-never n)
freeWord-is n k l g (Input x) h w = sym (free_mask-input n x w)
freeWord-is n k l g (Not a) h w = h a w ∙ sym (free_mask-neg n (g a))
freeWord-is n k l g (And a b) h w = ap₂ bit_or (h a w.0) (h b w.1) ∙ sym (free_mask-gate n false (g a) (g b))
freeWord-is n k l g (Or a b) h w = ap₂ bit_or (h a w.0) (h b w.1) ∙ sym (free_mask-gate n true (g a) (g b))
freeWord-is n k l g (Exists a b c) h w = ap (λ (x : ℕ). without x (range_mask b c)) (h a w.0) ∙ sym (free_mask-quant n true b c (g a))
freeWord-is n k l g (Forall a b c) h w = ap (λ (x : ℕ). without x (range_mask b c)) (h a w.0) ∙ sym (free_mask-quant n false b c (g a))
freeWord-is n k l g (Gauge x) h w = sym (free_mask-input n x w)

-- ---- two sets of variables have one in common exactly if their words do

pub meet-bits : (F : Form) (x y : ℕ) → bit_and x y < 2 ^ variables F → meet F (bit x) (bit y) ≡ not (eqb (bit_and x y) 0)
meet-bits F x y h = by_bool (eqb (bit_and x y) 0)
    (λ e. rw e (meet-none F (bit x) (bit y) (λ v l p q. clash (bit x v && bit y v) (rw (p, q)) (apart v (eqb-true (bit_and x y) 0 e)))))
    (λ e. rw e (by_bool (meet F (bit x) (bit y)) (λ t. t) (λ t. clash (eqb (bit_and x y) 0) (eq-eqb _ _ (none t)) e)))
  where
    apart : (v : ℕ) → bit_and x y ≡ 0 → (bit x v && bit y v) ≡ false
    apart v e = sym (bit-and x y v) ∙ ap (λ (w : ℕ). bit w v) e ∙ bit-none v

    low : meet F (bit x) (bit y) ≡ false → (v : ℕ) → v < variables F → (bit x v && bit y v) ≡ false
    low t v l = by_bool (bit x v) (λ p. rw p (none-meet F (bit x) (bit y) t v l p)) (λ p. rw p)

    none : meet F (bit x) (bit y) ≡ false → bit_and x y ≡ 0
    none t = ext (bit_and x y) 0 (λ v. by_bool (ltb v (variables F))
        (λ l. bit-and x y v ∙ low t v (omega tests))
        (λ l. bit_high (variables F) v h (omega tests))
        ∙ sym (bit-none v))

pub meet-same : (F : Form) (p p' q q' : ℕ → Bool) → ((v : ℕ) → p v ≡ p' v) → ((v : ℕ) → q v ≡ q' v) → meet F p q ≡ meet F p' q'
meet-same F p p' q q' f g = ap₂ (meet F) (fun_ext f) (fun_ext g)

-- the words of a kind whose variables are not bad are words of the form
pub bound-lt : (F : Form) (d : Kind) → bad_variables F d ≡ false → bound_mask d < 2 ^ variables F
unfolding bound_mask bad_variables
bound-lt F Never g = pow_pos (variables F)
bound-lt F (Input x) g = pow_pos (variables F)
bound-lt F (Not a) g = pow_pos (variables F)
bound-lt F (And a b) g = pow_pos (variables F)
bound-lt F (Or a b) g = pow_pos (variables F)
bound-lt F (Exists a b c) g = range-lt (variables F) b c (range-fits F b c g).2
bound-lt F (Forall a b c) g = range-lt (variables F) b c (range-fits F b c g).2
bound-lt F (Gauge x) g = pow_pos (variables F)

pub input-lt : (F : Form) (d : Kind) → bad_variables F d ≡ false → input_mask d < 2 ^ variables F
unfolding input_mask bad_variables
input-lt F Never g = pow_pos (variables F)
input-lt F (Input x) g = pow-lt (omega (tests, g))
input-lt F (Not a) g = pow_pos (variables F)
input-lt F (And a b) g = pow_pos (variables F)
input-lt F (Or a b) g = pow_pos (variables F)
input-lt F (Exists a b c) g = pow_pos (variables F)
input-lt F (Forall a b c) g = pow_pos (variables F)
input-lt F (Gauge x) g = pow_pos (variables F)

pub gauge_lt : (F : Form) (d : Kind) → bad_variables F d ≡ false → gauge_mask d < 2 ^ variables F
unfolding gauge_mask bad_variables
gauge_lt F Never g = pow_pos (variables F)
gauge_lt F (Input x) g = pow_pos (variables F)
gauge_lt F (Not a) g = pow_pos (variables F)
gauge_lt F (And a b) g = pow_pos (variables F)
gauge_lt F (Or a b) g = pow_pos (variables F)
gauge_lt F (Exists a b c) g = pow_pos (variables F)
gauge_lt F (Forall a b c) g = pow_pos (variables F)
gauge_lt F (Gauge x) g = pow-lt (omega (tests, g))

-- as a word m of the form, which the code has as r, and the word w of what earlier frames did
meet-word : (F : Form) (p : ℕ → Bool) (m w r : ℕ) → ((v : ℕ) → bit m v ≡ p v) → m < 2 ^ variables F → r ≡ m → meet F p (bit w) ≡ not (eqb (bit_and r w) 0)
meet-word F p m w r b l e =
    meet-same F p (bit m) (bit w) (bit w) (λ v. sym (b v)) (λ v. refl)
    ∙ meet-bits F m w (lt_of_le_of_lt (and_le_l m w) l) ∙ ap (λ (x : ℕ). not (eqb (bit_and x w) 0)) (sym e)

module _ (F : Form) (d : Kind) (w r : ℕ) (g : bad_variables F d ≡ false) where
  pub meet-bound : r ≡ bound_mask d → meet F (binds d) (bit w) ≡ not (eqb (bit_and r w) 0)
  meet-bound e = meet-word F (binds d) (bound_mask d) w r (bit-bound_mask d) (bound-lt F d g) e

  pub meet-input : r ≡ input_mask d → meet F (names_input d) (bit w) ≡ not (eqb (bit_and r w) 0)
  meet-input e = meet-word F (names_input d) (input_mask d) w r (bit-input_mask d) (input-lt F d g) e

  pub meet_gauge : r ≡ gauge_mask d → meet F (names_gauge d) (bit w) ≡ not (eqb (bit_and r w) 0)
  meet_gauge e = meet-word F (names_gauge d) (gauge_mask d) w r (bit-gauge_mask d) (gauge_lt F d g) e

-- the second of two tests decides where the first finds nothing
module _ (F : Form) (d : Kind) (w : Seen) (g : bad_variables F d ≡ false) where
  pub named_second : (i x : ℕ) → i ≡ input_mask d → x ≡ gauge_mask d → bit_and i w.gauges ≡ 0 → not (eqb (bit_and x w.inputs) 0) ≡ named_both F d (past_by w)
  unfolding named_both
  named_second i x e h z = rw (meet-input F d w.gauges i g e, meet_gauge F d w.inputs x g h, eq-eqb _ _ z)

  pub binds_second : (b x : ℕ) → b ≡ bound_mask d → x ≡ gauge_mask d → bit_and b w.gauges ≡ 0 → not (eqb (bit_and x w.bound) 0) ≡ binds_gauge F d (past_by w)
  unfolding binds_gauge
  binds_second b x e h z = rw (meet-bound F d w.gauges b g e, meet_gauge F d w.bound x g h, eq-eqb _ _ z)

pub first-variables : (F : Form) (d : Kind) (k : ℕ) (p : Past)
    → (first (
    cause (bad_variables F d) Number.range_broken k
    ∷ (cause (named_both F d p) Number.input_and_gauge k
    ∷ (cause (binds_gauge F d p) Number.gauge_bound k
    ∷ (cause (meet F (binds d) p.bound) Number.bound_twice k ∷ [])))
    )).number ≡ variables_fault F d p
unfolding first variables_fault
first-variables F d k p =
    by_bool (bad_variables F d) (λ e. rw e) (λ e. rw e
    (by_bool (named_both F d p) (λ h. rw h) (λ h. rw h
    (by_bool (binds_gauge F d p) (λ i. rw i) (λ i. rw i
    (by_bool (meet F (binds d) p.bound) (λ j. rw j) (λ j. rw j)))))))
