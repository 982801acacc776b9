-- A text is read by a beginning of it: what stands behind makes no difference, so a program that reads that much tells what the whole text would.
-- Assumes nothing.
use Prim.Native.Nat.{ℕ, zero, suc, ◌+◌, ◌-◌, ◌*◌, ◌≤◌, ◌<◌}
use Rattle.std.proofs.Common.{arith, zero-add, suc-add, sym, ap, ◌∙◌, get_or-take, lt-ltb}
use Rattle.std.proofs.Math.Nat.{mul-suc}
use Rattle.std.specs.Prelude.{true, false, ◌&&◌, List, [], ◌∷◌, ◌≡◌, length, take, drop}
use Rattle.std.proofs.Math.Path.{refl}
use Rattle.std.proofs.Math.Dec.{ltb}
use Rattle.std.proofs.Math.Seq.{take-nil}
use Rattle.words.proofs.Logic.{by_bool}
use Rattle.form.specs.Form.{frame_bytes, most_frames}
use Rattle.form.specs.declared.Form.{Form}
use Rattle.form.specs.declared.Form.TheVariants.{Narrow, Wide}
use Rattle.text.specs.Line.{head, ending, digits, line_size, bytes, lines}
use Rattle.text.proofs.LineLaws.{ending-most}
use Rattle.text.specs.Reading.{script_frames, script_frame_bytes, begins_wide, text_form, other, sheet_fault, read_sheet, reading_in, reading}
use Rattle.text.specs.Prefix.{decisive}

-- ---- one line

head-prefix : (k : ℕ) (l : List ℕ) → 0 < k → head (take k l) ≡ head l
head-prefix k l h = get_or-take k l 0 0 h

drop-front : (j k : ℕ) (l : List ℕ) → drop j (take (j + k) l) ≡ take k (drop j l)
drop-front zero k l = rw zero-add
drop-front (suc j) k [] = rw suc-add (sym (take-nil k))
drop-front (suc j) k (a ∷ l) = rw suc-add (drop-front j k l)

drop-prefix : (j k : ℕ) (l : List ℕ) → j ≤ k → drop j (take k l) ≡ take (k - j) (drop j l)
drop-prefix j k l h =
    let e : k ≡ j + (k - j) = omega arith in
    ap (λ (n : ℕ). drop j (take n l)) e ∙ drop-front j (k - j) l

ending-prefix : (k : ℕ) (l : List ℕ) → 2 ≤ k → ending (take k l) ≡ ending l
unfolding ending
ending-prefix k l h =
    rw (head-prefix k l (omega arith), drop-prefix 1 k l (omega arith), head-prefix (k - 1) (drop 1 l) (omega arith))

digits-prefix : (n k : ℕ) (l : List ℕ) → n ≤ k → digits n (take k l) ≡ digits n l
unfolding digits
digits-prefix zero k l h = refl
digits-prefix (suc n) k l h =
    rw (head-prefix k l (omega arith), drop-prefix 1 k l (omega arith), digits-prefix n (k - 1) (drop 1 l) (omega arith))

bytes-prefix : (n k : ℕ) (l : List ℕ) → 2 * n ≤ k → bytes n (take k l) ≡ bytes n l
unfolding bytes
bytes-prefix zero k l h = refl
bytes-prefix (suc n) k l h =
    rw (
      head-prefix k l (omega arith),
      drop-prefix 1 k l (omega arith),
      head-prefix (k - 1) (drop 1 l) (omega arith),
      drop-prefix 2 k l (omega arith),
      bytes-prefix n (k - 2) (drop 2 l) (omega arith),
    )

-- the line of w bytes takes two bytes more than its digits at most
abbrev line_most : ℕ → ℕ
line_most w = 2 * w + 2

module _ (w : ℕ) where
  size-most : (l : List ℕ) → line_size w l ≤ line_most w
  unfolding line_size
  size-most l =
      by_bool (digits (2 * w) l && ltb 0 (ending (drop (2 * w) l)))
      (λ t. rw t (omega (arith, ending-most (drop (2 * w) l)))) (λ f. rw f (omega arith))

  size-prefix : (k : ℕ) (l : List ℕ) → line_most w ≤ k → line_size w (take k l) ≡ line_size w l
  unfolding line_size
  size-prefix k l h =
      rw (
        digits-prefix (2 * w) k l (omega arith),
        drop-prefix (2 * w) k l (omega arith),
        ending-prefix (k - 2 * w) (drop (2 * w) l) (omega arith),
      )

  -- ---- lines in a row

  -- the lines of the first k bytes are those of l, with `left` bytes left of what stands behind them
  record Prefix (n k : ℕ) (l : List ℕ) : Type 0 where
    left : ℕ
    enough : k ≤ left + line_most w * n
    same : lines w n (take k l) ≡ record { count = (lines w n l).count; frames = (lines w n l).frames; rest = take left (lines w n l).rest }

  turn-prefix : (n k : ℕ) (l : List ℕ) → line_most w ≤ k → ltb 0 (line_size w l) ≡ true → Prefix n (k - line_size w l) (drop (line_size w l) l) → Prefix (suc n) k l
  unfolding lines
  turn-prefix n k l h t r = record {
    left = r.left;
    enough = omega (arith, size-most l, r.enough, mul-suc (line_most w) n);
    same = rw (size-prefix k l h, t, drop-prefix (line_size w l) k l (omega (arith, size-most l)), r.same, bytes-prefix w k l (omega arith));
  }

  stop_prefix : (n k : ℕ) (l : List ℕ) → line_most w ≤ k → ltb 0 (line_size w l) ≡ false → Prefix (suc n) k l
  unfolding lines
  stop_prefix n k l h f = record { left = k; enough = omega arith; same = rw (size-prefix k l h, f) }

  lines-prefix : (n k : ℕ) (l : List ℕ) → line_most w * n + line_most w ≤ k → Prefix n k l
  unfolding lines
  lines-prefix zero k l h = record { left = k; enough = omega arith; same = refl }
  lines-prefix (suc n) k l h =
      let s = mul-suc (line_most w) n in
      by_bool (ltb 0 (line_size w l))
      (λ t. turn-prefix n k l (omega (arith, s)) t (lines-prefix n (k - line_size w l) (drop (line_size w l) l) (omega (arith, s, size-most l))))
      (λ f. stop_prefix n k l (omega (arith, s)) f)

-- ---- the whole text

some_left : (k : ℕ) (l : List ℕ) → 0 < k → ltb 0 (length (take k l)) ≡ ltb 0 (length l)
some_left zero l h = absurd (omega arith)
some_left (suc k) [] h = refl
some_left (suc k) (a ∷ l) h = lt-ltb 0 (length (take (suc k) (a ∷ l))) (omega arith) ∙ sym (lt-ltb 0 (length (a ∷ l)) (omega arith))

-- one sheet line too many, and a line of either form
sheet-most : (F : Form) → line_most (frame_bytes F) * suc (most_frames F) ≤ 48016
sheet-most Narrow = omega arith
sheet-most Wide = omega arith

line-most : (F : Form) → line_most (frame_bytes F) ≤ 16
line-most Narrow = omega arith
line-most Wide = omega arith

fault_prefix : (F : Form) (k : ℕ) (l : List ℕ) → 16 ≤ k → sheet_fault F (take k l) ≡ sheet_fault F l
unfolding sheet_fault
fault_prefix F k l h = rw (size-prefix (frame_bytes (other F)) k l (omega (arith, line-most (other F))))

in_prefix : (F : Form) (k : ℕ) (text : List ℕ) → decisive ≤ k → reading_in F (take k text) ≡ reading_in F text
unfolding reading_in
in_prefix F k text h =
    let w = frame_bytes F in
    let most = suc (most_frames F) in
    let p = lines-prefix w most k text (omega (arith, sheet-most F, line-most F)) in
    let s = (lines w most text).rest in
    let left : decisive ≤ p.left + 48016 = omega (arith, p.enough, sheet-most F) in
    let q = lines-prefix script_frame_bytes (suc script_frames) (p.left - ending s) (drop (ending s) s) (omega (arith, left, ending-most s)) in
    ap (read_sheet F (sheet_fault F)) p.same
    ∙ rw (
      ending-prefix p.left s (omega (arith, left)),
      fault_prefix F p.left s (omega (arith, left)),
      drop-prefix (ending s) p.left s (omega (arith, left, ending-most s)),
      q.same,
      some_left q.left (lines script_frame_bytes (suc script_frames) (drop (ending s) s)).rest (omega (arith, left, q.enough, ending-most s)),
    )

form_prefix : (k : ℕ) (text : List ℕ) → decisive ≤ k → text_form (take k text) ≡ text_form text
unfolding begins_wide
form_prefix k text h = rw (size-prefix (frame_bytes Wide) k text (omega arith))

pub reading-prefix : (k : ℕ) (text : List ℕ) → decisive ≤ k → reading (take k text) ≡ reading text
unfolding reading
reading-prefix k text h = ap (λ (F : Form). reading_in F (take k text)) (form_prefix k text h) ∙ in_prefix (text_form text) k text h
