-- Tables that a pass over a net fills from node 0 up: the free variables, and the lanes of a cone over y and five side nodes. Assumes nothing.
use Rattle.std.specs.Prelude.{ℕ, zero, suc, ◌-◌, ◌^◌, ◌<◌, ◌≤◌, ◌≡◌, false, cond, List, get_or, ltb}
use Rattle.std.specs.Int.Bits.{bit_and, bit_or}
use Rattle.words.specs.Word.{bit}
use Rattle.words.specs.Mask.{without}
use Rattle.net.specs.Net.{Node, Fixed, Reads, Flips, Joins, Binds, Net, node_of}
use Rattle.net.specs.Op.{code_of}
use Rattle.net.specs.declared.node.Node as Read
use Rattle.net.specs.Layout.{packed}

-- what a cell holds, from the cells before it
abbrev pub Rule : Type 0
Rule = (ℕ → ℕ) → ℕ → ℕ

abbrev pub at : List ℕ → ℕ → ℕ
at W k = get_or W k 0

-- the first i cells follow the rule
abbrev pub Filled : Rule → List ℕ → ℕ → Type 0
Filled T W i = (k : ℕ) → k < i → get_or W k 0 ≡ T (at W) k

-- ---- free variables

-- the word of a node's free variables, from those of the nodes that it names
unfoldable pub free_word : (ℕ → ℕ) → Node → ℕ
free_word F (Fixed v) = 0
free_word F (Reads x) = 2 ^ x
free_word F (Flips a) = F a
free_word F (Joins d a b) = bit_or (F a) (F b)
free_word F (Binds d m a) = without (F a) m

unfoldable pub free_rule : Net → Rule
free_rule N W k = free_word W (N k)

-- the first i words are the free variables
pub record FreeTable (net words : List ℕ) (i : ℕ) : Type 0 where
  pub filled : Filled (free_rule (packed net)) words i

-- ---- lanes: slot 0 is off the cone, 1 to 5 is a side node, 6 is a node of the cone that is computed

-- the pattern of bit i of the lane's number
unfoldable pub pattern : ℕ → ℕ
pattern zero = 0xAAAA_AAAA_AAAA_AAAA
pattern (suc zero) = 0xCCCC_CCCC_CCCC_CCCC
pattern (suc (suc zero)) = 0xF0F0_F0F0_F0F0_F0F0
pattern (suc (suc (suc zero))) = 0xFF00_FF00_FF00_FF00
pattern (suc (suc (suc (suc zero)))) = 0xFFFF_0000_FFFF_0000
pattern (suc (suc (suc (suc (suc i))))) = 0xFFFF_FFFF_0000_0000

abbrev pub ones : ℕ
ones = 18446744073709551615

unfoldable pub gate_word : (ℕ → ℕ) → Node → ℕ
gate_word W (Fixed v) = cond v ones 0
gate_word W (Reads x) = pattern 0
gate_word W (Flips a) = ones - W a
gate_word W (Joins d a b) = cond d (bit_or (W a) (W b)) (bit_and (W a) (W b))
gate_word W (Binds d m a) = 0

unfoldable pub lane_rule : Net → (ℕ → ℕ) → Rule
lane_rule N slots W k = cond (ltb (slots k) 6) (pattern (slots k)) (gate_word W (N k))

-- a node of the cone that may be computed: a constant, y, a gate of nodes of the cone
abbrev pub Gate : ℕ → (ℕ → ℕ) → Node → Type 0
Gate y slots (Fixed v) = Unit {0}
Gate y slots (Reads x) = x ≡ y
Gate y slots (Flips a) = 0 < slots a
Gate y slots (Joins d a b) = (0 < slots a) × (0 < slots b)
Gate y slots (Binds d m a) = ⊥

-- node k has its place in the cone: a side node is the one that `sides` says
pub record Placed (N : Net) (y : ℕ) (slots sides : ℕ → ℕ) (k : ℕ) : Type 0 where
  pub sided : slots k < 6 → sides (slots k - 1) ≡ k
  pub gated : 6 ≤ slots k → Gate y slots (N k)

abbrev pub Cone : Net → ℕ → (ℕ → ℕ) → (ℕ → ℕ) → ℕ → Type 0
Cone N y slots sides i = (k : ℕ) → k < i → 0 < slots k → Placed N y slots sides k

-- node k by its numbers, in a slot
unfoldable pub lane_word : List ℕ → ℕ → ℕ → ℕ → ℕ → ℕ → ℕ
lane_word words slot op left right mask = cond (ltb slot 6) (pattern slot) (gate_word (at words) (node_of op left right mask))

pub record PlacedAt (y : ℕ) (slots sides : List ℕ) (op left right mask k : ℕ) : Type 0 where
  pub sided : get_or slots k 0 < 6 → 0 < get_or slots k 0 → get_or sides (get_or slots k 0 - 1) 0 ≡ k
  pub gated : 6 ≤ get_or slots k 0 → Gate y (at slots) (node_of op left right mask)

-- the first i words are the lanes, and the nodes of the cone among them have their places
pub record LaneTable (net : List ℕ) (y : ℕ) (slots sides words : List ℕ) (i : ℕ) : Type 0 where
  pub filled : Filled (lane_rule (packed net) (at slots)) words i
  pub cone : Cone (packed net) y (at slots) (at sides) i

-- ---- what the tests need

-- a node's numbers, where what it names is below n
pub record Near (n op left right : ℕ) : Type 0 where
  pub variable : op ≡ 2 → left < 64
  pub one : 3 ≤ op → left < n
  pub two : 4 ≤ op → op < 6 → right < n

-- the same of a node as the code reads it, and the node that it is
abbrev pub NearNode : ℕ → Read.Node → Type 0
NearNode n u = Near n (code_of u.op) u.left u.right

abbrev pub node_as : Read.Node → Node
node_as u = node_of (code_of u.op) u.left u.right u.mask

-- a side node is one of the first i, and does not read y
pub record SideOk (words : List ℕ) (i y s : ℕ) : Type 0 where
  pub below : s < i
  pub unread : bit (get_or words s 0) y ≡ false

abbrev pub SidesOk : List ℕ → List ℕ → ℕ → ℕ → ℕ → Type 0
SidesOk sides words i y n = (j : ℕ) → j < n → SideOk words i y (get_or sides j 0)
