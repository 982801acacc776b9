-- What the words of a node are, and what storing them does: the net with that node replaced. Assumes nothing.
use Rattle.std.specs.Prelude.{ℕ, ◌+◌, ◌*◌, ◌/◌, ◌%◌, ◌<◌, ◌≤◌, ◌≡◌, refl, false, List, length, get_or, set, eqb}
use Rattle.std.proofs.Common.{arith, ◌∙◌, length-set, get_or-set_same, get_or-set_other, eqb-true}
use Rattle.std.proofs.Math.Path.{sym, ap, ap₂, fun_ext}
use Rattle.std.proofs.Math.Dec.{ltb}
use Rattle.words.specs.Logic.{tests}
use Rattle.words.proofs.Logic.{by_bool}
use Rattle.net.specs.Net.{Fixed, node_of, replace, replace-here, replace-other}
use Rattle.net.specs.Layout.{frames_of, free_of, gauges_of, first_word, second_word, HasNode, unpack, packed, changed, Is}

-- ---- one word

mod_low : (x y l : ℕ) → l < 4096 → x ≡ y * 4096 + l → x % 4096 ≡ l
mod_low x y l h e = omega arith

-- a word as the code makes it
pub word_node : {op left right w : ℕ} → op < 8 → left < 4096 → right < 4096 → w ≡ op + 16 * left + 65536 * right → (mask : ℕ) → unpack w mask ≡ node_of op left right mask
unfolding unpack
word_node {op} {left} {right} {w} p l r e mask =
    let a : w % 8 ≡ op = omega arith in
    let s : w / 16 ≡ right * 4096 + left = omega arith in
    let b : w / 16 % 4096 ≡ left = mod_low (w / 16) right left l s in
    let t : w / 65536 ≡ right = omega arith in
    let d : w / 65536 % 4096 ≡ right = mod_low (w / 65536) 0 right r (omega arith) in
    rw (a, b, d)

-- and as it is read
pub is_read : {net : List ℕ} {k mask : ℕ} → mask ≡ get_or net (second_word k) 0
    → Is net k (get_or net (first_word k) 0 % 8) (get_or net (first_word k) 0 / 16 % 4096) (get_or net (first_word k) 0 / 65536 % 4096) mask
unfolding packed unpack
is_read e = record { node = rw e }

-- the second word stands next to the first
pub next_word : (k : ℕ) → first_word k + 1 ≡ second_word k
next_word k = omega arith

-- no words, no node
none_node : unpack 0 0 ≡ Fixed false
unfolding unpack node_of
none_node = refl

pub none-stored : (net : List ℕ) (k : ℕ) → get_or net (first_word k) 0 ≡ 0 → get_or net (second_word k) 0 ≡ 0 → packed net k ≡ Fixed false
unfolding packed
none-stored net k e h = ap₂ unpack e h ∙ none_node

-- nothing is stored from node n on
pub none-behind : (net : List ℕ) (n : ℕ) → ((i : ℕ) → first_word n ≤ i → get_or net i 0 ≡ 0) → (k : ℕ) → n ≤ k → packed net k ≡ Fixed false
none-behind net n f k h = none-stored net k (f (first_word k) (omega arith)) (f (second_word k) (omega arith))

-- ---- both words of node k stored

pub record Stored (net : List ℕ) (k w m : ℕ) (net' : List ℕ) : Type 0 where
  pub is : net' ≡ set (set net (first_word k) w) (second_word k) m

module _ {net net' : List ℕ} {k w m : ℕ} (S : Stored net k w m net') where
  pub stored-long : length net' ≡ length net
  stored-long = ap length S.is ∙ simp length-set

  -- what stands elsewhere is as it was
  pub stored_other : (i : ℕ) → (i ≡ first_word k → ⊥) → (i ≡ second_word k → ⊥) → get_or net' i 0 ≡ get_or net i 0
  stored_other i a b =
      ap (λ (l : List ℕ). get_or l i 0) S.is ∙ get_or-set_other (set net (first_word k) w) (second_word k) i m 0 b ∙ get_or-set_other net (first_word k) i w 0 a

  pub stored-count : frames_of net' ≡ frames_of net
  stored-count = stored_other 0 (λ e. omega arith) (λ e. omega arith)

  pub stored_opens : free_of net' ≡ free_of net
  stored_opens = stored_other 1 (λ e. omega arith) (λ e. omega arith)

  pub stored-gauged : gauges_of net' ≡ gauges_of net
  stored-gauged = stored_other 2 (λ e. omega arith) (λ e. omega arith)

  pub stored-first : HasNode net k → get_or net' (first_word k) 0 ≡ w
  stored-first h =
      ap (λ (l : List ℕ). get_or l (first_word k) 0) S.is
      ∙ get_or-set_other (set net (first_word k) w) (second_word k) (first_word k) m 0 (λ e. omega arith)
      ∙ get_or-set_same net (first_word k) w 0 (omega arith)

  pub stored_second : HasNode net k → get_or net' (second_word k) 0 ≡ m
  stored_second h =
      ap (λ (l : List ℕ). get_or l (second_word k) 0) S.is
      ∙ get_or-set_same (set net (first_word k) w) (second_word k) m 0 (omega (arith, length-set net (first_word k) w))

  -- whether another node is changed is as it was
  pub stored-changed : (j : ℕ) → eqb j k ≡ false → changed net' j ≡ changed net j
  unfolding changed
  stored-changed j e = ap (λ (x : ℕ). ltb 7 (x % 16)) (stored_other (first_word j) (λ q. omega tests) (λ q. omega tests))

  pub stored_net : HasNode net k → packed net' ≡ replace (packed net) k (unpack w m)
  unfolding packed
  stored_net h = fun_ext (λ j. by_bool (eqb j k)
      (λ e. rw (eqb-true j k e) (ap₂ unpack (stored-first h) (stored_second h) ∙ sym (replace-here (packed net) k (unpack w m))))
      (λ e. ap₂ unpack (stored_other (first_word j) (λ q. omega tests) (λ q. omega tests)) (stored_other (second_word j) (λ q. omega tests) (λ q. omega tests))
      ∙ sym (replace-other (packed net) k (unpack w m) j e)))
