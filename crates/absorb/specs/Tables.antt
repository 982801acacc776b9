-- Tables that a pass over a net fills from node 0 up: the free variables, and the lanes of a cone. Assumes nothing.
use Rattle.std.specs.Prelude.{ℕ, ◌+◌, ◌-◌, ◌/◌, ◌^◌, ◌<◌, ◌≡◌, Bool, cond, ◌&&◌, List, length, get_or, set, eqb, ltb}
use Rattle.std.proofs.Common.{arith, sym, ◌∙◌, ap₂, subst, get_or-set_other, get_or-set_same}
use Rattle.std.proofs.Math.Path.{refl, ap}
use Rattle.std.proofs.Math.Bool.{true, false}
use Rattle.std.specs.Int.Bits.{bit_and, bit_or, bit_xor}
use borrow.Author.Tests.{eqb-true, eq-eqb, lt-ltb, ltb-true}
use Rattle.words.specs.Logic.{tests}
use Rattle.words.proofs.Logic.{by_bool, clash, and_both}
use Rattle.words.specs.Word.{bit}
use Rattle.words.proofs.Bits.{bit-and, bit-or, bit-none, bit-pow, bit-ones, bit_complement}
use Rattle.words.specs.Mask.{without}
use Rattle.words.proofs.Mask.{bit-without}
use Rattle.formula.specs.Assignment.{join}
use Rattle.formula.specs.Formula.{free}
use Rattle.formula.proofs.Over.{over-free}
use Rattle.net.specs.Net.{Node, Fixed, Reads, Flips, Joins, Binds, Net, build, meaning, value, frees, Fit, Ordered, meaning-is, upward}
use Rattle.absorb.specs.Absorb.{Turns}
use Rattle.absorb.specs.Cone.{pattern, Rule, at, Filled, free_word, free_rule, ones, gate_word, lane_rule, Gate, Cone}
use Rattle.absorb.specs.Lanes.{Lane, variable, side, constant, opposite, joined, bit-pattern, evens, turn_test, lanes_turn}

-- it reads earlier cells only
abbrev pub Backward : Rule → Type 0
Backward T = (W U : ℕ → ℕ) (k : ℕ) → ((a : ℕ) → a < k → W a ≡ U a) → T W k ≡ T U k

-- one cell more
pub filled_more : (T : Rule) → Backward T → (W : List ℕ) (i w : ℕ) → i < length W → Filled T W i → w ≡ T (at W) i → Filled T (set W i w) (i + 1)
filled_more T b W i w l f e k h =
    by_bool (eqb k i)
    (λ q. subst (λ (j : ℕ). get_or (set W i w) j 0 ≡ T (at (set W i w)) j) (sym (eqb-true k i q))
    (get_or-set_same W i w 0 l ∙ e ∙ b (at W) (at (set W i w)) i (λ a t. sym (get_or-set_other W i a w 0 (λ z. omega arith)))))
    (λ q. get_or-set_other W i k w 0 (λ z. clash (eqb k i) (eq-eqb k i z) q) ∙ f k (omega tests)
    ∙ b (at W) (at (set W i w)) k (λ a t. sym (get_or-set_other W i a w 0 (λ z. omega tests))))

-- ---- free variables

pub free_backward : (N : Net) → Ordered N → Backward (free_rule N)
unfolding free_rule free_word
free_backward N o W U k h = go (N k) (o.fit k)
  where
    go : (u : Node) → Fit k u → free_word W u ≡ free_word U u
    go (Fixed v) f = refl
    go (Reads x) f = refl
    go (Flips a) f = h a f
    go (Joins d a b) f = ap₂ bit_or (h a f.0) (h b f.1)
    go (Binds d m a) f = ap (λ (x : ℕ). without x m) (h a f)

-- words so made, up to node l, have the free variables as their bits
free_words : (N : Net) (F : ℕ → ℕ) → Ordered N → (l : ℕ) → ((k : ℕ) → k < l → F k ≡ free_word F (N k)) → (k : ℕ) → k < l → (x : ℕ) → bit (F k) x ≡ frees N k x
unfolding build free free_word
free_words N F o l e = upward (λ k. k < l → (x : ℕ) → bit (F k) x ≡ frees N k x) (λ k h i x. rw (e k i, meaning-is N o k) (go k (N k) (o.fit k) x (λ j q. h j q (lower q i))))
  where
    lower : {j k : ℕ} → j < k → k < l → j < l
    lower q i = omega arith

    go : (k : ℕ) (u : Node) → Fit k u → (x : ℕ) → ((j : ℕ) → j < k → (x : ℕ) → bit (F j) x ≡ frees N j x) → bit (free_word F u) x ≡ free (build (meaning N) u) x
    go k (Fixed true) w x h = bit-none x
    go k (Fixed false) w x h = bit-none x
    go k (Reads y) w x h = bit-pow y x
    go k (Flips a) w x h = h a w x
    go k (Joins d a b) w x h = bit-or (F a) (F b) x ∙ rw (h a w.0 x, h b w.1 x)
    go k (Binds d m a) w x h = bit-without (F a) m x ∙ rw (h a w x) (sym (over-free d m (meaning N a) x))

pub free-filled : (N : Net) → Ordered N → (W : List ℕ) (i : ℕ) → Filled (free_rule N) W i → (k : ℕ) → k < i → (x : ℕ) → bit (get_or W k 0) x ≡ frees N k x
unfolding free_rule
free-filled N o W i f = free_words N (at W) o i f

-- ---- lanes

pub lane_backward : (N : Net) (slots : ℕ → ℕ) → Ordered N → Backward (lane_rule N slots)
unfolding lane_rule gate_word
lane_backward N slots o W U k h = ap (λ (w : ℕ). cond (ltb (slots k) 6) (pattern (slots k)) w) (go (N k) (o.fit k))
  where
    go : (u : Node) → Fit k u → gate_word W u ≡ gate_word U u
    go (Fixed v) f = refl
    go (Reads x) f = refl
    go (Flips a) f = ap (λ (x : ℕ). ones - x) (h a f)
    go (Joins d a b) f = ap₂ (λ (x z : ℕ). cond d (bit_or x z) (bit_and x z)) (h a f.0) (h b f.1)
    go (Binds d m a) f = refl

module _ (N : Net) (o : Ordered N) (y : ℕ) (slots sides : ℕ → ℕ) (W : List ℕ) (i : ℕ)
    (fits : (k : ℕ) → get_or W k 0 < 2 ^ 64) (filled : Filled (lane_rule N slots) W i) (cone : Cone N y slots sides i) where
  in_cone : ℕ → Bool
  in_cone k = ltb k i && ltb 0 (slots k)

  member : (k : ℕ) → k < i → 0 < slots k → in_cone k ≡ true
  unfolding in_cone
  member k l s = rw (lt-ltb k i l, lt-ltb 0 (slots k) s)

  lane_word_lem : (u : Node) (k : ℕ) → Fit k u → k < i → N k ≡ u → Gate y slots u → get_or W k 0 ≡ gate_word (at W) u → Lane N y 5 sides (at W) in_cone k
  unfolding gate_word join
  lane_word_lem (Fixed true) k f l e g w = constant true e (λ j b. rw w (bit-ones 64 j ∙ lt-ltb j 64 b))
  lane_word_lem (Fixed false) k f l e g w = constant false e (λ j b. rw w (bit-none j))
  lane_word_lem (Reads x) k f l e g w = variable (rw (← g) e) (λ j b. rw w (bit-pattern 0 j (omega arith) b))
  lane_word_lem (Flips a) k f l e g w = opposite a e (member a (omega arith) g) (λ j b. rw w (bit_complement 64 j (fits a) b))
  lane_word_lem (Joins true a b) k f l e g w = joined true a b e (member a (omega (arith, f.0)) g.0) (member b (omega (arith, f.1)) g.1) (λ j c. rw w (bit-or (at W a) (at W b) j))
  lane_word_lem (Joins false a b) k f l e g w = joined false a b e (member a (omega (arith, f.0)) g.0) (member b (omega (arith, f.1)) g.1) (λ j c. rw w (bit-and (at W a) (at W b) j))
  lane_word_lem (Binds d m a) k f l e g w = absurd g

  lane : (k : ℕ) → in_cone k ≡ true → Lane N y 5 sides (at W) in_cone k
  unfolding in_cone lane_rule
  lane k c =
      let p = and_both (ltb k i) (ltb 0 (slots k)) c in
      let l = ltb-true k i p.0 in
      let s = ltb-true 0 (slots k) p.1 in
      let P = cone k l s in
      by_bool (ltb (slots k) 6)
      (λ e. side (slots k - 1) (omega tests) (sym (P.sided (omega tests)))
      (λ j b. ap (λ (x : ℕ). bit x j) (filled k l ∙ rw e) ∙ bit-pattern (slots k) j (omega tests) b ∙ ap (bit j) (omega arith)))
      (λ e. lane_word_lem (N k) k (o.fit k) l refl (P.gated (omega tests)) (filled k l ∙ rw e))

  -- the test of the word of g: it flips with y
  pub table_turns : (g : ℕ) → g < i → 0 < slots g → ((j : ℕ) → j < 5 → frees N (sides j) y ≡ false)
      → bit_and (bit_xor (get_or W g 0) (get_or W g 0 / 2 ^ 1)) evens ≡ evens → Turns y (value N g)
  table_turns g l s unread t = lanes_turn N o y 5 sides (at W) in_cone lane unread g (member g l s) (turn_test (get_or W g 0) t)
