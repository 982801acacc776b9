-- What reading lines comes to, step by step, for lines of any number of bytes: the laws that the code goes by. Assumes nothing.
use Prim.Native.Nat.{ℕ, zero, suc, ◌+◌, ◌-◌, ◌*◌, ◌≤◌, ◌<◌}
use native.Mathlib.Omega.{arith}
use Rattle.std.proofs.Common.{add-zero, add-one, zero-add, suc-add, zero-mul, suc-mul, ap, ◌∙◌, length-append, get_or-drop, drop-drop}
use Rattle.std.specs.List.{list_all}
use Rattle.std.specs.Option.{IsSome}
use Rattle.std.specs.Prelude.{Option, Some, None, unwrap_or, Bool, true, false, ◌&&◌, List, [], ◌∷◌, ◌≡◌, eqb, length, get_or, set, take, drop}
use Rattle.std.proofs.Math.Path.{refl, sym}
use Rattle.std.proofs.Math.Dec.{ltb}
use Rattle.std.proofs.Math.ListN.{length-drop, get_or-eq_default}
use Rattle.std.proofs.lemmas.List.Edits.{sets}
use borrow.Author.Tests.{ltb-true, ltb-false, lt-ltb, le-ltb, ne_eqb}
use Rattle.words.proofs.Logic.{by_bool, and_both}
use Rattle.words.proofs.Stores.{sets_append}
use Rattle.text.specs.Hex.{digit_value, is_digit, line_feed, carriage_return}
use Rattle.text.proofs.HexLaws.{value-below}
use Rattle.text.specs.Line.{head, ending, digits, line_size, byte_here, bytes, TwoDigits, Lines, no_lines, line_then, lines}

pub head-drop : (at : ℕ) (l : List ℕ) → head (drop at l) ≡ get_or l at 0
head-drop at l = get_or-drop at l 0 0 ∙ ap (λ (k : ℕ). get_or l k 0) (add-zero at)

-- a byte other than 0 stands within the text
pub head-within : (at : ℕ) (l : List ℕ) → 0 < head (drop at l) → at < length l
head-within at l h =
    by_bool (ltb at (length l)) (ltb-true at (length l))
    (λ f. let z : head (drop at l) ≡ 0 = head-drop at l ∙ get_or-eq_default l 0 (ltb-false at (length l) f) in
    absurd (omega arith))

-- ---- digits

module _ (n : ℕ) (l : List ℕ) (d : ℕ) (e : d ≡ digit_value (head l)) where
  pub digits_stop : 16 ≤ d → digits (suc n) l ≡ false
  unfolding digits
  digits_stop h = rw (← e, le-ltb d 16 h)

  pub digits-go : d < 16 → digits (suc n) l ≡ digits n (drop 1 l)
  unfolding digits
  digits-go h = rw (← e, lt-ltb d 16 h)

pub digits-none : (l : List ℕ) → digits 0 l ≡ true
unfolding digits
digits-none l = refl

pub first-digit : (n : ℕ) (l : List ℕ) → digits (suc n) l ≡ true → digit_value (head l) < 16
unfolding digits
first-digit n l e = ltb-true _ _ (and_both (ltb (digit_value (head l)) 16) (digits n (drop 1 l)) e).0

pub digits_two : (n : ℕ) (l : List ℕ) → digits (suc (suc n)) l ≡ true → TwoDigits l × (digits n (drop 2 l) ≡ true)
unfolding digits
digits_two n l e =
    let a = and_both (ltb (digit_value (head l)) 16) (digits (suc n) (drop 1 l)) e in
    let b = and_both (ltb (digit_value (head (drop 1 l))) 16) (digits n (drop 1 (drop 1 l))) a.1 in
    (record { high = ltb-true _ _ a.0; low = ltb-true _ _ b.0 }, rw (drop-drop 1 1 l) at b.1)

-- they all lie within the text
pub digits-within : (n : ℕ) (l : List ℕ) → digits n l ≡ true → n ≤ length l
unfolding digits
digits-within zero l e = omega arith
digits-within (suc n) [] e = absurd (omega (arith, first-digit n [] e, value-below 0 (omega arith)))
digits-within (suc n) (b ∷ l) e = omega (arith, digits-within n l (and_both (ltb (digit_value b) 16) (digits n l) e).1)

pub digits-all : (n : ℕ) (l : List ℕ) → n ≤ length l → list_all is_digit (take n l) ≡ digits n l
unfolding digits
digits-all zero l h = refl
digits-all (suc n) [] h = absurd (omega arith)
digits-all (suc n) (b ∷ l) h = ap (λ (r : Bool). is_digit b && r) (digits-all n l (omega arith))

pub digits_short : (n : ℕ) (l : List ℕ) → length l < n → digits n l ≡ false
digits_short n l h = by_bool (digits n l) (λ t. absurd (omega (arith, digits-within n l t))) (λ f. f)

pub two_within : (l : List ℕ) → TwoDigits l → 2 ≤ length l
two_within [] t = absurd (omega (arith, t.high, value-below 0 (omega arith)))
two_within (a ∷ []) t = absurd (omega (arith, t.low, value-below 0 (omega arith)))
two_within (a ∷ b ∷ l) t = omega arith

-- the digits behind the first m
pub digits-later : (m n : ℕ) (l : List ℕ) → digits (m + n) l ≡ true → digits n (drop m l) ≡ true
unfolding digits
digits-later zero n l e = rw zero-add at e
digits-later (suc m) n l e =
    let a = and_both (ltb (digit_value (head l)) 16) (digits (m + n) (drop 1 l)) (rw suc-add at e) in
    let d : drop m (drop 1 l) ≡ drop (suc m) l = drop-drop m 1 l ∙ ap (λ (k : ℕ). drop k l) (suc-add 0 m ∙ ap suc (zero-add m)) in
    rw d at (digits-later m n (drop 1 l) a.1)

-- ---- a line's end

pub ending-other : (l : List ℕ) (first : ℕ) → first ≡ head l → (first ≡ line_feed → ⊥) → (first ≡ carriage_return → ⊥) → ending l ≡ 0
unfolding ending
ending-other l first e h k = rw (← e, ne_eqb first line_feed h, ne_eqb first carriage_return k)

pub ending-most : (l : List ℕ) → ending l ≤ 2
unfolding ending
ending-most l =
    by_bool (eqb (head l) line_feed) (λ t. rw t (omega arith))
    (λ f. by_bool (eqb (head l) carriage_return && eqb (head (drop 1 l)) line_feed) (λ t. rw (f, t) (omega arith)) (λ g. rw (f, g) (omega arith)))

pub ending-within : (l : List ℕ) → ending l ≤ length l
unfolding ending
ending-within [] = omega arith
ending-within (b ∷ []) =
    by_bool (eqb b line_feed) (λ e. rw e (omega arith))
    (λ f. by_bool (eqb b carriage_return) (λ e. rw (f, e) (omega arith)) (λ g. rw (f, g) (omega arith)))
ending-within (b ∷ c ∷ l) = omega (arith, ending-most (b ∷ c ∷ l))

-- no line ends where a digit stands
pub digit-no-end : (n : ℕ) (l : List ℕ) → 0 < n → digits n l ≡ true → ending l ≡ 0
digit-no-end zero l h e = absurd (omega arith)
digit-no-end (suc n) l h e =
    let d = first-digit n l e in
    ending-other l (head l) refl (λ f. omega (arith, d, value-below (head l) (omega arith))) (λ f. omega (arith, d, value-below (head l) (omega arith)))

-- what is more than 0, told by 0 where it is none, is there
pub some-told : (r : Option ℕ) → 0 < unwrap_or r 0 → IsSome r
some-told None h = absurd (omega arith)
some-told (Some n) h = refl

-- ---- a line's size

module _ (w : ℕ) (l : List ℕ) where
  pub size-no-digits : digits (2 * w) l ≡ false → line_size w l ≡ 0
  unfolding line_size
  size-no-digits e = rw e

  module _ (d : digits (2 * w) l ≡ true) (n : ℕ) (e : n ≡ ending (drop (2 * w) l)) where
    pub size-no-end : n ≡ 0 → line_size w l ≡ 0
    unfolding line_size
    size-no-end z = rw (d, ← e, z)

    pub size-line : 0 < n → line_size w l ≡ 2 * w + n
    unfolding line_size
    size-line h = rw (d, ← e, lt-ltb 0 n h)

  pub size_shape : 0 < line_size w l
      → (digits (2 * w) l ≡ true) × (line_size w l ≡ 2 * w + ending (drop (2 * w) l)) × (0 < ending (drop (2 * w) l))
  unfolding line_size
  size_shape h =
      by_bool (digits (2 * w) l && ltb 0 (ending (drop (2 * w) l)))
      (λ t. let k = and_both (digits (2 * w) l) (ltb 0 (ending (drop (2 * w) l))) t in (k.0, rw t, ltb-true _ _ k.1))
      (λ f. let z : 0 < 0 = rw f at h in absurd (omega arith))

  -- a line lies within the text
  pub size-within : line_size w l ≤ length l
  unfolding line_size
  size-within =
      by_bool (digits (2 * w) l && ltb 0 (ending (drop (2 * w) l)))
      (λ t. rw t
      (let e : 0 < ending (drop (2 * w) l) = ltb-true _ _ (and_both (digits (2 * w) l) (ltb 0 (ending (drop (2 * w) l))) t).1 in
      omega (arith, ending-within (drop (2 * w) l), length-drop (2 * w) l)))
      (λ f. rw f (omega arith))

-- a line has one size: behind the digits of a shorter one stands its end, and no digit of a longer one
pub one_size : (v w : ℕ) (l : List ℕ) → v < w → 0 < line_size v l → 0 < line_size w l → ⊥
one_size v w l h p q =
    let e : 2 * w ≡ 2 * v + 2 * (w - v) = omega arith in
    let d = digits-later (2 * v) (2 * (w - v)) l (rw e at (size_shape w l q).0) in
    omega (arith, (size_shape v l p).2, digit-no-end (2 * (w - v)) (drop (2 * v) l) (omega arith) d)

-- and does not begin with a line's end
pub size-no_empty : (w : ℕ) (l : List ℕ) → 0 < w → 0 < line_size w l → ending l ≡ 0
size-no_empty w l h p = digit-no-end (2 * w) l (omega arith) (size_shape w l p).0

-- ---- the bytes of a frame

pub bytes-length : (n : ℕ) (l : List ℕ) → length (bytes n l) ≡ n
unfolding bytes
bytes-length zero l = refl
bytes-length (suc n) l = ap suc (bytes-length n (drop 2 l))

pub bytes-none : (l : List ℕ) → bytes 0 l ≡ []
unfolding bytes
bytes-none l = refl

pub bytes-put : (n i : ℕ) (text out : List ℕ) (b : ℕ) → b ≡ byte_here (drop (2 * i) text)
    → sets out i (bytes (suc n) (drop (2 * i) text)) ≡ sets (set out i b) (i + 1) (bytes n (drop (2 * (i + 1)) text))
unfolding bytes
bytes-put n i text out b e =
    let t : 2 * (i + 1) ≡ 2 * i + 2 = omega arith in rw (t, add-one i, ← e, drop-drop 2 (2 * i) text)

-- ---- lines in a row

module _ (w : ℕ) where
  module _ (n : ℕ) (l : List ℕ) where
    pub lines_more : 0 < line_size w l → lines w (suc n) l ≡ line_then w l (lines w n (drop (line_size w l) l))
    unfolding lines
    lines_more h = rw (lt-ltb 0 (line_size w l) h)

    pub lines_stop : line_size w l ≡ 0 → lines w (suc n) l ≡ no_lines l
    unfolding lines
    lines_stop e = rw e

  pub lines_none : (l : List ℕ) → lines w 0 l ≡ no_lines l
  unfolding lines
  lines_none l = refl

  pub lines-turn : (l : List ℕ) (size : ℕ) → size ≡ line_size w l → (n : ℕ) → 0 < size → lines w (suc n) l ≡ line_then w l (lines w n (drop size l))
  lines-turn l size e n h = rw e (lines_more n l (omega arith))

  -- where as many lines stand as were asked for, the first is one
  pub first-line : (n : ℕ) (l : List ℕ) → (lines w (suc n) l).count ≡ suc n → 0 < line_size w l
  first-line n l e =
      by_bool (ltb 0 (line_size w l)) (ltb-true 0 (line_size w l))
      (λ f. let z : line_size w l ≡ 0 = omega (arith, ltb-false 0 (line_size w l) f) in
      let c : (lines w (suc n) l).count ≡ 0 = ap (λ (k : Lines). k.count) (lines_stop n l z) in absurd (omega arith))

  -- its digits lie within the text
  pub line-digits : (l : List ℕ) → 0 < line_size w l → 2 * w ≤ length l
  line-digits l h = digits-within (2 * w) l (size_shape w l h).0

  -- behind it stand the others; its frame is stored, and then theirs
  module _ (l : List ℕ) (size : ℕ) (e : size ≡ line_size w l) (n : ℕ) (all : (lines w (suc n) l).count ≡ suc n) where
    turn : lines w (suc n) l ≡ line_then w l (lines w n (drop size l))
    turn = lines-turn l size e n (omega (arith, first-line n l all))

    pub other-lines : (lines w n (drop size l)).count ≡ n
    other-lines = omega (arith, ap (λ (k : Lines). k.count) turn)

    pub frames-put : (out : List ℕ) (to : ℕ)
        → sets out to (lines w (suc n) l).frames ≡ sets (sets out to (bytes w l)) (to + w) (lines w n (drop size l)).frames
    frames-put out to =
        ap (λ (k : Lines). sets out to k.frames) turn
        ∙ sets_append (bytes w l) _ out to
        ∙ ap (λ (k : ℕ). sets (sets out to (bytes w l)) (to + k) (lines w n (drop size l)).frames) (bytes-length w l)

  pub count_most : (n : ℕ) (l : List ℕ) → (lines w n l).count ≤ n
  unfolding lines
  count_most zero l = omega arith
  count_most (suc n) l =
      by_bool (ltb 0 (line_size w l)) (λ t. rw t (omega (arith, count_most n (drop (line_size w l) l)))) (λ f. rw f (omega arith))

  -- asking for just the lines that there are
  pub lines-count : (n : ℕ) (l : List ℕ) → lines w (lines w n l).count l ≡ lines w n l
  unfolding lines
  lines-count zero l = refl
  lines-count (suc n) l =
      by_bool (ltb 0 (line_size w l)) (λ t. rw (t, t) (ap (line_then w l) (lines-count n (drop (line_size w l) l)))) (λ f. rw f)

  pub frames-length : (n : ℕ) (l : List ℕ) → length (lines w n l).frames ≡ (lines w n l).count * w
  unfolding lines
  frames-length zero l = sym (zero-mul w)
  frames-length (suc n) l =
      by_bool (ltb 0 (line_size w l))
      (λ t. rw (t, suc-mul)
      (length-append (bytes w l) (lines w n (drop (line_size w l) l)).frames
      ∙ omega (arith, bytes-length w l, frames-length n (drop (line_size w l) l))))
      (λ f. rw f (sym (zero-mul w)))
