-- Formulas, their truth under an assignment, and their free variables. Assumes nothing.
use Rattle.std.specs.Prelude.{ℕ, Bool, not, ◌&&◌, ◌||◌, eqb}
use Rattle.std.proofs.Math.Bool.{true, false}
use Rattle.formula.specs.Assignment.{Assignment, within, join, sweep}

-- A gate and a quantifier carry the truth that decides them, so that each law is stated once.
pub data Formula : Type 0 where
  never : Formula
  input : ℕ → Formula
  neg : Formula → Formula
  gate : Bool → Formula → Formula → Formula
  quant : Bool → ℕ → ℕ → Formula → Formula

abbrev pub and : Formula → Formula → Formula
and f g = gate false f g

abbrev pub or : Formula → Formula → Formula
or f g = gate true f g

-- of the c variables from b on
abbrev pub exists : ℕ → ℕ → Formula → Formula
exists b c f = quant true b c f

abbrev pub forall : ℕ → ℕ → Formula → Formula
forall b c f = quant false b c f

unfoldable pub truth : Formula → Assignment → Bool
truth never σ = false
truth (input x) σ = σ x
truth (neg f) σ = not (truth f σ)
truth (gate d f g) σ = join d (truth f σ) (truth g σ)
truth (quant d b c f) σ = sweep d b c (truth f) σ

-- document 01's open variables, by syntax alone
unfoldable pub free : Formula → ℕ → Bool
free never k = false
free (input x) k = eqb k x
free (neg f) k = free f k
free (gate d f g) k = free f k || free g k
free (quant d b c f) k = free f k && not (within b c k)
