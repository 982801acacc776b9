-- One node replaced by one that stands for it: every node stands for what it was. A quantifier over one of its kind is one over both masks. Assumes nothing.
use Rattle.std.specs.Prelude.{ℕ, ◌<◌, ◌≡◌, Bool, true, false, not, ◌||◌, eqb}
use Rattle.std.proofs.Common.{arith, ap, ap₂, eqb-true}
use Rattle.std.proofs.Math.Path.{sym}
use Rattle.std.specs.Int.Bits.{bit_or}
use Rattle.words.proofs.Logic.{by_bool}
use Rattle.formula.specs.Assignment.{join}
use Rattle.formula.specs.Formula.{Formula, truth, free}
use Rattle.formula.proofs.Over.{over-over, over-over-free}
use Rattle.net.specs.Net.{Node, Fixed, Reads, Flips, Joins, Binds, Net, build, meaning, Fit, Ordered, meaning-is, fit_at, at_node, at-binds, replace, replace-here, replace-other, ordered-replace, upward}
use Rattle.net.specs.Stands.{Stands, over-stands, stands-refl, stands_trans}

-- what is built of formulas that stand for each other
build-stands : (f g : ℕ → Formula) (k : ℕ) (u : Node) → Fit k u → ((a : ℕ) → a < k → Stands (f a) (g a)) → Stands (build f u) (build g u)
unfolding build truth free
build-stands f g k (Fixed true) w e = stands-refl (build f (Fixed true))
build-stands f g k (Fixed false) w e = stands-refl (build f (Fixed false))
build-stands f g k (Reads x) w e = stands-refl (build f (Reads x))
build-stands f g k (Flips a) w e = record { same = λ σ. ap not ((e a w).same σ); reads = λ x. (e a w).reads x }
build-stands f g k (Joins d a b) w e = record {
  same = λ σ. ap₂ (join d) ((e a w.0).same σ) ((e b w.1).same σ);
  reads = λ x. ap₂ ◌||◌ ((e a w.0).reads x) ((e b w.1).reads x);
}
build-stands f g k (Binds d m a) w e = over-stands d m (e a w)

-- node g is replaced by u, which stands for it in the old net
pub replace-stands : (N : Net) (g : ℕ) (u : Node) → Ordered N → Fit g u → Stands (meaning N g) (build (meaning N) u) → (k : ℕ) → Stands (meaning N k) (meaning (replace N g u) k)
replace-stands N g u o w s =
    upward (λ k. Stands (meaning N k) (meaning (replace N g u) k)) (λ k h. by_bool (eqb k g)
    (λ e. let q = eqb-true k g e in
    rw (q, at_node (ordered-replace N g u o w) (replace-here N g u))
    (stands_trans s (build-stands (meaning N) (meaning (replace N g u)) g u w (λ a l. h a (rw q l)))))
    (λ e. rw (at_node (ordered-replace N g u o w) (replace-other N g u k e), meaning-is N o k)
    (build-stands (meaning N) (meaning (replace N g u)) k (N k) (o.fit k) h)))

-- ---- nest: the quantifier k over the quantifier q of its kind

module _ {N : Net} {k q x m n : ℕ} {d : Bool} (o : Ordered N) (outer : N k ≡ Binds d m q) (inner : N q ≡ Binds d n x) where
  pub nest_fit : Fit k (Binds d (bit_or m n) x)
  nest_fit = omega (arith, fit_at o outer, fit_at o inner)

  pub nest_stands : (j : ℕ) → Stands (meaning N j) (meaning (replace N k (Binds d (bit_or m n) x)) j)
  unfolding build
  nest_stands =
      replace-stands N k (Binds d (bit_or m n) x) o nest_fit
      (rw (at-binds o outer, at-binds o inner) (record {
        same = λ σ. sym (over-over d m n (meaning N x) σ);
        reads = λ y. sym (over-over-free d m n (meaning N x) y);
      }))

  pub nest_ordered : Ordered (replace N k (Binds d (bit_or m n) x))
  nest_ordered = ordered-replace N k (Binds d (bit_or m n) x) o nest_fit
