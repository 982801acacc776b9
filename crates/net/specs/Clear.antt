-- Which variables are bound below: laws of `Clear` and `Distinct`, and of a net in which one node is replaced. Assumes nothing.
use Rattle.std.specs.Prelude.{ℕ, ◌≤◌, ◌≡◌, Bool, eqb}
use Rattle.std.proofs.Common.{arith, sym, ◌∙◌, eqb-true}
use Rattle.std.specs.Int.Bits.{bit_or}
use Rattle.words.proofs.Logic.{by_bool}
use Rattle.words.specs.Mask.{Sub, Apart}
use Rattle.words.proofs.Mask.{apart-sub, apart-sym, or_apart}
use Rattle.net.specs.Net.{Node, Binds, Net, replace, replace-here, replace-other, Ranged, Clear, Distinct}

-- ---- fewer nodes, fewer variables, both masks

pub clear_less : {N : Net} {a b z : ℕ} → Clear N a z → b ≤ a → Clear N b z
clear_less C h = record { apart = λ j l e. C.apart j (omega arith) e }

pub clear-sub : {N : Net} {a y z : ℕ} → Clear N a z → Sub y z → Clear N a y
clear-sub C s = record { apart = λ j l e. apart-sub (C.apart j l e) s }

pub clear_or : {N : Net} {a y z : ℕ} → Clear N a y → Clear N a z → Clear N a (bit_or y z)
clear_or C D = record { apart = λ j l e. apart-sym (or_apart (apart-sym (C.apart j l e)) (apart-sym (D.apart j l e))) }

-- ---- one node replaced

pub ranged_replace : (n : ℕ) (N : Net) (g : ℕ) (u : Node) → ((k : ℕ) → Ranged n (N k)) → Ranged n u → (k : ℕ) → Ranged n (replace N g u k)
ranged_replace n N g u r h k =
    by_bool (eqb k g)
    (λ e. rw (eqb-true k g e, replace-here N g u) h)
    (λ e. rw (replace-other N g u k e) (r k))

-- node g binds the variables of m in x now

same_body : {d e : Bool} {m n x y : ℕ} → Binds d m x ≡ Binds e n y → (m ≡ n) × (x ≡ y)
same_body e = (cc, cc)

module _ {N : Net} {g m : ℕ} (d : Bool) (x : ℕ) where
  pub clear-replace : {a z : ℕ} → Clear N a z → (g ≤ a → Apart m z) → Clear (replace N g (Binds d m x)) a z
  clear-replace {a} {z} C f =
      record {
        apart = λ j l e. by_bool (eqb j g)
            (λ i.
            let q = eqb-true j g i in
            let h = same_body (sym (replace-here N g (Binds d m x)) ∙ (rw q at e)) in
            rw (← h.0) (f (omega arith)))
            (λ i. C.apart j l (sym (replace-other N g (Binds d m x) j i) ∙ e));
      }

  -- they are bound nowhere in x, nor are they bound by a quantifier that has node g in its body
  pub distinct_replace : Distinct N → Clear (replace N g (Binds d m x)) x m
      → ((i : ℕ) (e : Bool) (n y : ℕ) → N i ≡ Binds e n y → g ≤ y → Apart m n) → Distinct (replace N g (Binds d m x))
  distinct_replace D own outer =
      record {
        below = λ i {d = e} {m = n} {x = y} t. by_bool (eqb i g)
            (λ s.
            let q = eqb-true i g s in
            let h = same_body (sym (replace-here N g (Binds d m x)) ∙ (rw q at t)) in
            rw (← h.0, ← h.1) own)
            (λ s. let h = sym (replace-other N g (Binds d m x) i s) ∙ t in clear-replace (D.below i h) (λ l. outer i e n y h l));
      }
