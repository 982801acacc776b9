-- Lines that are written, store by store, for records of any width: the laws that the code goes by. Assumes nothing.
use Prim.Native.Nat.{ℕ, zero, suc, ◌+◌, ◌*◌, ◌/◌, ◌%◌, ◌≤◌, ◌<◌}
use Rattle.std.proofs.Common.{zero-mul, add-one, arith, ◌∙◌, drop-cons, length-take-le, append-nil, ◌-◌}
use Rattle.std.proofs.Math.Nat.{suc-mul}
use Rattle.std.specs.Prelude.{List, [], ◌∷◌, ◌++◌, ◌≡◌, get_or, set, take, drop}
use Rattle.std.proofs.Math.Path.{refl, sym, ap}
use Rattle.std.proofs.Math.ListN.{drop_of_length-le, length, length-append, length-drop}
use Rattle.std.proofs.lemmas.List.Edits.{sets}
use Rattle.std.proofs.Math.Seq.{drop-drop}
use Rattle.std.proofs.lemmas.List.Edits.{sets-eq}
use Rattle.std.proofs.Math.Seq.{take-length}
use Rattle.std.proofs.lemmas.Slice.{put_mid-paste}
use borrow.Rule.Slice.PartMut.{put_mid}
use Rattle.words.proofs.Stores.{sets_append, sets-start}
use Rattle.text.specs.Hex.{digit_byte, line_feed, hex_line, hex_lines}

-- ---- a part of a buffer

-- what fills a buffer is all of it
pub sets_whole : (vs l : List ℕ) → length vs ≡ length l → sets l 0 vs ≡ vs
sets_whole vs l e = sets-start vs l (omega arith) ∙ ap (λ (m : List ℕ). vs ++ m) (drop_of_length-le l (omega arith)) ∙ append-nil vs

-- what fills a part of a buffer is stored from its start
pub sets_part : (at n : ℕ) (l vs : List ℕ) → length vs ≡ n → at + n ≤ length l → put_mid at (at + n - at) l vs ≡ sets l at vs
sets_part at n l vs e h =
    let k : at + n - at ≡ n = omega arith in
    let b : at + length vs ≤ length l = omega arith in
    let s = rw e at (sets-eq vs l at b) in
    rw k (put_mid-paste at n l vs vs n refl refl (sym e) ∙ ap (λ (m : List ℕ). take at l ++ m ++ drop (at + n) l) (ap (λ (j : ℕ). take j vs) (sym e) ∙ take-length vs) ∙ sym s)

pub part_length : (at n : ℕ) (l : List ℕ) → at + n ≤ length l → length (take (at + n - at) (drop at l)) ≡ n
part_length at n l h =
    let k : at + n - at ≡ n = omega arith in
    rw k (length-take-le n (drop at l) (omega (arith, length-drop at l)))

-- ---- a line

-- two digits a byte, and a line's end
pub line-length : (bs : List ℕ) → length (hex_line bs) ≡ 2 * length bs + 1
unfolding hex_line
line-length [] = refl
line-length (b ∷ bs) = omega (arith, line-length bs)

-- the digits of byte i, and then the others
pub line-put : (bs : List ℕ) (i : ℕ) → i < length bs → (out : List ℕ) (to : ℕ)
    → sets out to (hex_line (drop i bs)) ≡ sets (set (set out to (digit_byte (get_or bs i 0 / 16))) (to + 1) (digit_byte (get_or bs i 0 % 16))) (to + 2) (hex_line (drop (i + 1) bs))
unfolding hex_line
line-put bs i h out to =
    let e : suc (suc to) ≡ to + 2 = omega arith in
    rw (add-one i, add-one to, drop-cons bs i 0 h, ← e)

pub line-end : (out : List ℕ) (to : ℕ) → sets out to (hex_line []) ≡ set out to line_feed
unfolding hex_line
line-end out to = refl

module _ (w : ℕ) where
  pub record_line : (l : List ℕ) → w ≤ length l → length (hex_line (take w l)) ≡ 2 * w + 1
  record_line l h = line-length (take w l) ∙ omega (arith, length-take-le w l h)

  pub lines_none : (l : List ℕ) → hex_lines w 0 l ≡ []
  unfolding hex_lines
  lines_none l = refl

  -- the line at a place is stored, and then the others
  pub lines-put : (l : List ℕ) (at n : ℕ) → at + w ≤ length l → (out : List ℕ) (to : ℕ)
      → sets out to (hex_lines w (suc n) (drop at l)) ≡ sets (sets out to (hex_line (take w (drop at l)))) (to + (2 * w + 1)) (hex_lines w n (drop (at + w) l))
  unfolding hex_lines
  lines-put l at n h out to =
      sets_append (hex_line (take w (drop at l))) (hex_lines w n (drop w (drop at l))) out to
      ∙ rw (record_line (drop at l) (omega (arith, length-drop at l)), drop-drop w at l)

  pub lines-length : (n : ℕ) (l : List ℕ) → n * w ≤ length l → length (hex_lines w n l) ≡ n * (2 * w + 1)
  unfolding hex_lines
  lines-length zero l h = sym (zero-mul (2 * w + 1))
  lines-length (suc n) l h =
      let k : n * w + w ≤ length l = rw suc-mul at h in
      length-append (hex_line (take w l)) (hex_lines w n (drop w l))
      ∙ rw suc-mul (omega (arith, record_line l (omega (arith, k)), lines-length n (drop w l) (omega (arith, k, length-drop w l))))
