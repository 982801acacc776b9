-- The flip test of code: the tables of free variables and lanes, as loops fill them. Assumes nothing.
use Rattle.std.specs.Prelude.{ℕ, zero, suc, ◌+◌, ◌-◌, ◌/◌, ◌^◌, ◌<◌, ◌≤◌, ◌≡◌, refl, cond, List, length, get_or, set, eqb, ltb}
use Rattle.std.proofs.Common.{arith, sym, ◌∙◌, ap, subst, eqb-true}
use Rattle.std.specs.Int.Bits.{bit_and, bit_xor}
use Rattle.words.specs.Logic.{tests}
use Rattle.words.proofs.Logic.{by_bool}
use Rattle.words.specs.Word.{bit}
use Rattle.net.specs.Net.{Node, node_of, node_fixed, node_reads, node_flips, node_joins, value, frees}
use Rattle.net.specs.Layout.{packed, Ground, Is, reads-low, names-below, joins-right}
use Rattle.absorb.specs.Absorb.{Turns}
use Rattle.absorb.specs.Cone.{at, free_word, free_rule, FreeTable, pattern, gate_word, lane_rule, lane_word, Gate, Placed, PlacedAt, LaneTable, Near, SidesOk}
use Rattle.absorb.specs.Lanes.{evens}
use Rattle.absorb.specs.Tables.{filled_more, free_backward, free-filled, lane_backward, table_turns}

pub near_at : {net : List ℕ} {k op left right mask n : ℕ} → Ground net → Is net k op left right mask → k ≤ n → Near n op left right
near_at G I l =
    record {
      variable = λ e. reads-low G I e;
      one = λ h. omega (arith, names-below G I h);
      two = λ h i. omega (arith, joins-right G I h i);
    }

-- ---- free variables

pub free-none : (net words : List ℕ) → FreeTable net words 0
free-none net words = record { filled = λ k l. absurd (omega arith) }

pub free-next : {net words : List ℕ} {k op left right mask w : ℕ} → Ground net → k < length words → FreeTable net words k → Is net k op left right mask
    → w ≡ free_word (at words) (node_of op left right mask) → FreeTable net (set words k w) (k + 1)
unfolding free_rule
free-next {net} {words} {k} {op} {left} {right} {mask} {w} G l T I e =
    record { filled = filled_more (free_rule (packed net)) (free_backward (packed net) G.ordered) words k w l T.filled (e ∙ ap (free_word (at words)) (sym I.node)) }

pub free-at : {net words : List ℕ} {i : ℕ} → Ground net → FreeTable net words i → (g : ℕ) → g < i → (x : ℕ) → bit (get_or words g 0) x ≡ frees (packed net) g x
free-at {net} {words} {i} G T = free-filled (packed net) G.ordered words i T.filled

-- ---- lanes

pub pattern-high : (s : ℕ) → 5 ≤ s → pattern s ≡ 18446744069414584320
unfolding pattern
pattern-high zero h = absurd (omega arith)
pattern-high (suc zero) h = absurd (omega arith)
pattern-high (suc (suc zero)) h = absurd (omega arith)
pattern-high (suc (suc (suc zero))) h = absurd (omega arith)
pattern-high (suc (suc (suc (suc zero)))) h = absurd (omega arith)
pattern-high (suc (suc (suc (suc (suc i))))) h = refl

pub lane-none : (net : List ℕ) (y : ℕ) (slots sides words : List ℕ) → LaneTable net y slots sides words 0
lane-none net y slots sides words = record { filled = λ k l. absurd (omega arith); cone = λ k l. absurd (omega arith) }

pub lane-next : {net : List ℕ} {y : ℕ} {slots sides words : List ℕ} {k op left right mask w : ℕ} → Ground net → k < length words → LaneTable net y slots sides words k
    → Is net k op left right mask → w ≡ lane_word words (get_or slots k 0) op left right mask → PlacedAt y slots sides op left right mask k → LaneTable net y slots sides (set words k w) (k + 1)
unfolding lane_rule lane_word
lane-next {net} {y} {slots} {sides} {words} {k} {op} {left} {right} {mask} {w} G l T I e P =
    record {
      filled = filled_more (lane_rule (packed net) (at slots)) (lane_backward (packed net) (at slots) G.ordered) words k w l T.filled
          (e ∙ ap (λ (u : Node). cond (ltb (get_or slots k 0) 6) (pattern (get_or slots k 0)) (gate_word (at words) u)) (sym I.node));
      cone = λ j b s. by_bool (eqb j k)
          (λ q. subst (λ (i : ℕ). Placed (packed net) y (at slots) (at sides) i) (sym (eqb-true j k q))
          (record {
            sided = λ z. P.sided z (subst (λ (i : ℕ). 0 < get_or slots i 0) (eqb-true j k q) s);
            gated = λ z. subst (Gate y (at slots)) (sym I.node) (P.gated z);
          }))
          (λ q. T.cone j (omega tests) s);
    }

-- ---- a gate whose nodes are in the cone, by its numbers

module _ (y : ℕ) (slots : List ℕ) (op left right mask : ℕ) where
  gate-is : {u : Node} → node_of op left right mask ≡ u → Gate y (at slots) u → Gate y (at slots) (node_of op left right mask)
  gate-is e g = subst (Gate y (at slots)) (sym e) g

  pub gate_fixed : op < 2 → Gate y (at slots) (node_of op left right mask)
  gate_fixed h = gate-is (node_fixed op left right mask h) tt

  pub gate-reads : op ≡ 2 → left ≡ y → Gate y (at slots) (node_of op left right mask)
  gate-reads h e = gate-is (node_reads op left right mask h) e

  pub gate_flips : op ≡ 3 → 0 < get_or slots left 0 → Gate y (at slots) (node_of op left right mask)
  gate_flips h e = gate-is (node_flips op left right mask h) e

  pub gate-joins : 4 ≤ op → op < 6 → 0 < get_or slots left 0 → 0 < get_or slots right 0 → Gate y (at slots) (node_of op left right mask)
  gate-joins h i e f = gate-is (node_joins op left right mask h i) (e, f)

-- ---- places, by slot

module _ (y : ℕ) (slots sides : List ℕ) (op left right mask k : ℕ) where
  pub placed-gate : 6 ≤ get_or slots k 0 → Gate y (at slots) (node_of op left right mask) → PlacedAt y slots sides op left right mask k
  placed-gate h g = record { sided = λ l p. absurd (omega arith); gated = λ l. g }

  pub placed-none : get_or slots k 0 ≡ 0 → PlacedAt y slots sides op left right mask k
  placed-none e = record { sided = λ l p. absurd (omega arith); gated = λ l. absurd (omega arith) }

  pub placed-side : get_or slots k 0 < 6 → get_or sides (get_or slots k 0 - 1) 0 ≡ k → PlacedAt y slots sides op left right mask k
  placed-side h e = record { sided = λ l p. e; gated = λ l. absurd (omega arith) }

-- ---- the test

pub flips : {net : List ℕ} {y : ℕ} {slots sides words frees : List ℕ} {i l g : ℕ} → Ground net → FreeTable net frees l → SidesOk sides frees l y 5
    → LaneTable net y slots sides words i → ((k : ℕ) → get_or words k 0 < 2 ^ 64) → g < i → 0 < get_or slots g 0
    → bit_and (bit_xor (get_or words g 0) (get_or words g 0 / 2 ^ 1)) evens ≡ evens → Turns y (value (packed net) g)
flips {net} {y} {slots} {sides} {words} {frees} {i} {l} {g} G F S T f b s t =
    table_turns (packed net) G.ordered y (at slots) (at sides) words i f T.filled T.cone g b s
    (λ j h. let o = S j h in sym (free-at G F (get_or sides j 0) o.below y) ∙ o.unread) t
