-- Source 000's formulas L and L' of a node, with 000's signs. A node is a quantifier of the net; its F is the body down to the next quantifiers, 000's
-- children, each of which is replaced by a proxy, a variable past the net's own. Assumes nothing.
use Rattle.std.specs.Prelude.{ℕ, ◌+◌, ◌<◌, ◌≡◌, Bool, true, false, List}
use Rattle.words.specs.Word.{bit}
use Rattle.formula.specs.Assignment.{Assignment, On}
use Rattle.formula.specs.Formula.{Formula, truth, free}
use Rattle.net.specs.Net.{Node, Fixed, Reads, Flips, Joins, Binds, meaning}
use Rattle.net.specs.Layout.{net_form, packed, changed}
use Rattle.form.specs.declared.Form.{Form}
use Rattle.records.specs.Table.{frame_at, mask_at, values_at}
use Rattle.proxies.specs.Kept.{Noted}
use Rattle.proxies.specs.Told.{Told}

-- 000's b.p, for a quantifier b of the net. It stands for the quantifier itself; where that is a FORALL, 000's node is its negation, an EXISTS, whose
-- proxy is this one negated, whose U is b's over table and whose O is b's under table: L and L' come out the same.
abbrev pub proxy : ℕ → ℕ
proxy b = 64 + b

unfoldable pub proxied : ℕ → Node → Node
proxied k (Fixed v) = Fixed v
proxied k (Reads x) = Reads x
proxied k (Flips a) = Flips a
proxied k (Joins d a b) = Joins d a b
proxied k (Binds d m a) = Reads (proxy k)

-- 000's n.F where n's body is node k
unfoldable pub body : List ℕ → ℕ → Formula
body net k = meaning (λ j. proxied j (packed net j)) k

-- a counted record of node b agrees with σ: b.U is true of σ (under table), b.O is false of it (over table)
pub record Agreeing (F : Form) (t : List ℕ) (count b : ℕ) (σ : Assignment) : Type 0 where
  pub at : ℕ
  pub counted : at < count
  pub frame : frame_at F t at ≡ b
  pub agrees : On (bit (mask_at F t at)) σ (bit (values_at F t at))

-- b.p ⇒ b.O and ¬b.p ⇒ ¬b.U, of every b that is not changed: of a changed one no record is used. (The proxies of quantifiers that are no children do not
-- occur in F.)
pub record Allowed (net u : List ℕ) (cu : ℕ) (o : List ℕ) (co : ℕ) (σ : Assignment) : Type 0 where
  pub true-proxy : (b : ℕ) → changed net b ≡ false → σ (proxy b) ≡ true → Agreeing (net_form net) o co b σ → ⊥
  pub false-proxy : (b : ℕ) → changed net b ≡ false → σ (proxy b) ≡ false → Agreeing (net_form net) u cu b σ → ⊥

-- L: σ, which has values for the variables and the proxies, gives F the truth that is looked for, and is allowed
pub record L (net u : List ℕ) (cu : ℕ) (o : List ℕ) (co a : ℕ) (target : Bool) (σ : Assignment) : Type 0 where
  pub holds : truth (body net a) σ ≡ target
  pub allowed : Allowed net u cu o co σ

-- L': the same with b.p ⇒ b.U and ¬b.p ⇒ ¬b.O, of every child b
pub record L' (net u : List ℕ) (cu : ℕ) (o : List ℕ) (co a : ℕ) (target : Bool) (σ : Assignment) : Type 0 where
  pub holds : truth (body net a) σ ≡ target
  pub true-proxy : (b : ℕ) → free (body net a) (proxy b) ≡ true → σ (proxy b) ≡ true → Agreeing (net_form net) u cu b σ
  pub false-proxy : (b : ℕ) → free (body net a) (proxy b) ≡ true → σ (proxy b) ≡ false → Agreeing (net_form net) o co b σ

-- a child whose value is known: what `quantified` ensures of the child b, a frame that is not changed, when it is checked under the candidate w, of which the
-- variables of m are set
pub record Settled (net : List ℕ) (m w : ℕ) (u : List ℕ) (cu : ℕ) (o : List ℕ) (co b : ℕ) : Type 0 where
  pub value : ℕ
  pub reason : ℕ
  pub told : Told net m w b value reason
  pub noted : Noted (net_form net) b value w u cu o co
