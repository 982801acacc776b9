-- The places behind the frames: a question's quantifiers are put there, each over the one before it and the first over the last frame, and all are taken
-- away again. Assumes nothing.
use Rattle.std.specs.Prelude.{ℕ, ◌+◌, ◌-◌, ◌<◌, ◌≤◌, ◌≡◌, ◌⊎◌, false, List, length, get_or, set}
use Rattle.words.specs.Mask.{Sub, Apart}
use Rattle.sheet.specs.Fields.{Sheet}
use Rattle.net.specs.Net.{Fixed, Binds, Clear}
use Rattle.net.specs.Layout.{frames_of, free_of, first_word, second_word, unpack, packed, changed, formula_at, val, Ground}
use Rattle.net.specs.Sheet.{NetOf}

-- the quantifier that d decides, over the node before it, at place i behind the frames
pub record Chosen (net : List ℕ) (i d mask : ℕ) (net' : List ℕ) : Type 0 where
  pub word : ℕ
  pub is : net' ≡ set (set net (first_word (frames_of net + i)) word) (second_word (frames_of net + i)) mask
  pub node : unpack word mask ≡ Binds (val d) mask (frames_of net + i - 1)

-- all three places emptied
pub record Forgotten (net net' : List ℕ) : Type 0 where
  pub long : length net' ≡ length net
  pub emptied : (i : ℕ) → first_word (frames_of net) ≤ i → i < first_word (frames_of net + 3) → get_or net' i 0 ≡ 0
  pub others : (i : ℕ) → (i < first_word (frames_of net) ⊎ (first_word (frames_of net + 3) ≤ i)) → get_or net' i 0 ≡ get_or net i 0

-- net is the net `base` of s with `count` quantifiers behind its frames, which bind the variables of `used`
pub record Stacked (s : Sheet) (base net : List ℕ) (count used : ℕ) : Type 0 where
  pub net_of : NetOf s base
  pub some : 0 < frames_of base
  pub within : count ≤ 3
  pub grounded : Ground net
  pub frames-same : frames_of net ≡ frames_of base
  pub long : length net ≡ length base
  -- the frames stand for what they stood for, and are changed or not as they were
  pub same : (k : ℕ) → k < frames_of base → formula_at net k ≡ formula_at base k
  pub changes : (k : ℕ) → k < frames_of base → changed net k ≡ changed base k
  -- free variables that are not used are bound nowhere
  pub clear : {m : ℕ} → Sub m (free_of base) → Apart used m → (a : ℕ) → Clear (packed net) a m
  -- nothing stands behind the quantifiers, and everything else is as in `base`
  pub behind : (k : ℕ) → frames_of base + count ≤ k → packed net k ≡ Fixed false
  pub others : (i : ℕ) → (i < first_word (frames_of base) ⊎ (first_word (frames_of base + 3) ≤ i)) → get_or net i 0 ≡ get_or base i 0
