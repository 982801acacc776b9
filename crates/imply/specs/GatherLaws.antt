-- The reasons of some forced variables are gathered from the highest down. Assumes nothing.
use Rattle.std.specs.Prelude.{ℕ, ◌^◌, ◌≡◌, true, false, List, get_or, eqb}
use Rattle.std.proofs.Common.{sym, ◌∙◌, ap, eqb-true}
use Rattle.std.proofs.Math.Bool.{and-true}
use Rattle.std.specs.Int.Bits.{bit_or}
use Rattle.words.proofs.Logic.{by_bool, clash, or_cases}
use Rattle.words.specs.Word.{bit}
use Rattle.words.proofs.Bits.{bit-or, bit-none, bit-pow}
use Rattle.words.specs.Mask.{Sub, Top, without}
use Rattle.words.proofs.Mask.{bit-without, without_sub, bits_sub, sub_trans, sub_refl, sub-or-left, sub-or-right, top_bit}
use Rattle.imply.specs.Gather.{Gathered}

-- r has the reasons of those variables of `some` that are not left
pub record Gathering (whys : List ℕ) (some left r : ℕ) : Type 0 where
  pub left-sub : Sub left some
  pub all : (x : ℕ) → bit some x ≡ true → bit left x ≡ false → Sub (get_or whys x 0) r
  pub from : (y : ℕ) → bit r y ≡ true → (x : ℕ) × (bit some x ≡ true) × (bit (get_or whys x 0) y ≡ true)

pub gather_none : (whys : List ℕ) (some : ℕ) → Gathering whys some some 0
gather_none whys some = record { left-sub = sub_refl some; all = λ x e n. clash (bit some x) e n; from = λ y e. clash (bit 0 y) e (bit-none y) }

module _ {whys : List ℕ} {some left r : ℕ} (G : Gathering whys some left r) where
  -- x, whose word is p, is the next
  pub gather_more : {x p left' r' : ℕ} → Top left x → p ≡ 2 ^ x → left' ≡ without left p → r' ≡ bit_or r (get_or whys x 0) → Gathering whys some left' r'
  gather_more {x} {p} {left'} {r'} T ep el er =
      record {
        left-sub = rw el (sub_trans (without_sub left p) G.left-sub);
        all = λ k e n. by_bool (eqb k x)
            (λ q. rw (er, eqb-true k x q) (sub-or-right r (get_or whys x 0)))
            (λ q. rw er (sub_trans (G.all k e (still k q n)) (sub-or-left r (get_or whys x 0))));
        from = λ y e. or_cases (bit r y) (bit (get_or whys x 0) y) (sym (bit-or r (get_or whys x 0) y) ∙ ap (λ (i : ℕ). bit i y) (sym er) ∙ e)
            (λ z. G.from y z)
            (λ z. (x, bits_sub G.left-sub x (top_bit T), z));
      }
    where
      still : (k : ℕ) → eqb k x ≡ false → bit left' k ≡ false → bit left k ≡ false
      still k q n =
          sym (and-true (bit left k)) ∙ sym (bit-without left (2 ^ x) k ∙ rw (bit-pow x k, q)) ∙ ap (λ (i : ℕ). bit i k) (sym (el ∙ ap (without left) ep)) ∙ n

  pub gather-end : left ≡ 0 → Gathered whys some r
  gather-end e = record { all = λ x s. G.all x s (rw e (bit-none x)); from = G.from }
