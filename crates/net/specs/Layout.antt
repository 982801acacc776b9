-- A net as one list of words, which a run lends to every line: how many frames, the free variables of the last one, the gauges, the links of `link`, and two
-- words a node. What can be read off the words is the net `packed`. Assumes nothing.
use Rattle.std.specs.Prelude.{ℕ, ◌+◌, ◌-◌, ◌*◌, ◌/◌, ◌%◌, ◌<◌, ◌≤◌, ◌≡◌, refl, Bool, true, false, not, cond, List, length, get_or, ltb}
use Rattle.std.proofs.Common.{arith, sym, ◌∙◌, subst, eq-eqb, ne_eqb}
use Rattle.std.proofs.Math.Path.{ap}
use Rattle.std.proofs.Math.Dec.{eqb}
use Rattle.words.specs.Logic.{tests}
use Rattle.std.specs.Bool.{beq}
use Rattle.words.proofs.Logic.{by_bool, clash}
use Rattle.formula.specs.Formula.{Formula, never, input, neg, gate}
use Rattle.formula.specs.Ask.{Bounded}
use Rattle.form.specs.Form.{form_of}
use Rattle.form.proofs.FormLaws.{few-variables}
use Rattle.form.specs.Form as Sizes
use Rattle.form.specs.declared.Form.{Form}
use Rattle.form.specs.declared.Form.TheVariants.{Narrow, Wide}
use Rattle.formula.specs.Over.{over}
use Rattle.net.specs.Net.{Node, Fixed, Reads, Flips, Joins, Binds, Net, node_of, node_fixed, node_reads, node_flips, node_joins, node_binds, build, meaning, Ordered, fit_at, at_node, at_reads, at_flips, at-joins, at-binds, Ranged, ranged_more, Distinct, bounded_net}

-- word 0: how many frames the sheet has; they are the first nodes
abbrev pub frames_of : List ℕ → ℕ
frames_of net = get_or net 0 0

-- word 1: the free variables of the last frame
abbrev pub free_of : List ℕ → ℕ
free_of net = get_or net 1 0

-- word 2: the sheet's gauges
abbrev pub gauges_of : List ℕ → ℕ
gauges_of net = get_or net 2 0

-- the words of node k; those before node 0 are three numbers and a link for each of 64 variables
abbrev pub first_word : ℕ → ℕ
first_word k = 67 + 2 * k

abbrev pub second_word : ℕ → ℕ
second_word k = 68 + 2 * k

-- a net has words for every frame that a sheet of its form may have, and three nodes more, for the quantifiers of a question
abbrev pub net_words : Form → ℕ
net_words F = first_word (Sizes.most_frames F + 3)

-- so the form of its sheet is told by how many words there are
unfoldable pub net_form : List ℕ → Form
net_form net = form_of (ltb (net_words Narrow) (length net))

pub form_words : (F : Form) (net : List ℕ) → length net ≡ net_words F → net_form net ≡ F
unfolding net_form
form_words Narrow net e = rw e
form_words Wide net e = rw e

pub form_same : (net net' : List ℕ) → length net' ≡ length net → net_form net' ≡ net_form net
unfolding net_form
form_same net net' e = rw e

-- there are words for node k
abbrev pub HasNode : List ℕ → ℕ → Type 0
HasNode net k = 68 + 2 * k < length net

-- the first word has three bits of op and one that says whether the node is changed, twelve of left, twelve of right; what stands above them are links. The
-- second is the mask
unfoldable pub unpack : ℕ → ℕ → Node
unpack x m = node_of (x % 8) (x / 16 % 4096) (x / 65536 % 4096) m

unfoldable pub packed : List ℕ → Net
packed net k = unpack (get_or net (first_word k) 0) (get_or net (second_word k) 0)

-- node k is changed: it need not stand for its frame
unfoldable pub changed : List ℕ → ℕ → Bool
changed net k = ltb 7 (get_or net (first_word k) 0 % 16)

-- the formula of node k
abbrev pub formula_at : List ℕ → ℕ → Formula
formula_at net k = meaning (packed net) k

-- a net that can be searched: nodes name earlier ones, variables are those of a sheet of its form, no variable is bound again below, and behind the frames
-- there is room for three nodes more. Numbers of nodes fit their bits
pub record Ground (net : List ℕ) : Type 0 where
  pub ordered : Ordered (packed net)
  pub ranged : (k : ℕ) → Ranged (Sizes.variables (net_form net)) (packed net k)
  pub distinct : Distinct (packed net)
  pub room : HasNode net (frames_of net + 2)
  pub few : length net ≤ 8067

-- node k as the code reads it
pub record Is (net : List ℕ) (k op left right mask : ℕ) : Type 0 where
  pub node : packed net k ≡ node_of op left right mask

-- the truth that a number stands for: 2 is true, 1 is false (0 is not known)
unfoldable pub val : ℕ → Bool
val v = eqb v 2

pub val-not : (v t : ℕ) → 0 < v → v < 3 → 0 < t → t < 3 → (v ≡ t → ⊥) → val v ≡ not (val t)
unfolding val
val-not v t a b c d n =
    by_bool (eqb t 2)
    (λ e. rw e (ne_eqb v 2 (λ q. n (omega tests))))
    (λ e. rw e (by_bool (eqb v 2) (λ q. q) (λ q. absurd (n (omega tests)))))

pub val_flip : (v : ℕ) → 0 < v → v < 3 → val (3 - v) ≡ not (val v)
val_flip v a b = val-not (3 - v) v (omega arith) (omega arith) a b (λ e. omega arith)

-- and the number of a truth
abbrev pub number : Bool → ℕ
number true = 2
number false = 1

pub val_number : (d : Bool) → val (number d) ≡ d
unfolding val
val_number true = refl
val_number false = refl

pub number-some : (d : Bool) → 0 < number d
number-some true = omega arith
number-some false = omega arith

pub number-low : (d : Bool) → number d < 3
number-low true = omega arith
number-low false = omega arith

pub number-not : (d : Bool) → number (not d) ≡ 3 - number d
number-not true = refl
number-not false = refl

pub number_same : {d e : Bool} → number d ≡ number e → d ≡ e
number_same {d} {e} h = sym (val_number d) ∙ ap val h ∙ val_number e

-- as the code tests two truths
pub number-is : (d e : Bool) → beq d e ≡ true → number d ≡ number e
number-is true true h = refl
number-is true false h = clash false h refl
number-is false true h = clash false h refl
number-is false false h = refl

pub number_other : (d e : Bool) → beq d e ≡ false → number d ≡ number e → ⊥
number_other true true h n = clash true refl h
number_other true false h n = omega arith
number_other false true h n = omega arith
number_other false false h n = clash true refl h

-- the truth that decides a quantifier: true an EXISTS, false a FORALL
unfoldable pub decides : ℕ → ℕ
decides op = cond (eqb op 6) 2 1

pub decides-some : (op : ℕ) → 0 < decides op
unfolding decides
decides-some op = by_bool (eqb op 6) (λ e. rw e (omega arith)) (λ e. rw e (omega arith))

pub decides-low : (op : ℕ) → decides op < 3
unfolding decides
decides-low op = by_bool (eqb op 6) (λ e. rw e (omega arith)) (λ e. rw e (omega arith))

decides-val : (op : ℕ) → eqb op 6 ≡ val (decides op)
unfolding decides val
decides-val op = by_bool (eqb op 6) (λ e. rw e) (λ e. rw e)

-- a word has room for the variables of either form
abbrev pub variables : ℕ
variables = 64

pub ground_ranged : {net : List ℕ} → Ground net → (k : ℕ) → Ranged variables (packed net k)
ground_ranged {net} G k = ranged_more (packed net k) (few-variables (net_form net)) (G.ranged k)

pub ground_bounded : {net : List ℕ} → Ground net → (k : ℕ) → Bounded variables (formula_at net k)
ground_bounded {net} G k = bounded_net variables (packed net) G.ordered (ground_ranged G) k

-- and only those of the net's own form are free
pub ground_formed : {net : List ℕ} → Ground net → (k : ℕ) → Bounded (Sizes.variables (net_form net)) (formula_at net k)
ground_formed {net} G k = bounded_net (Sizes.variables (net_form net)) (packed net) G.ordered G.ranged k

-- ---- by kind, from the code's tests

module _ {net : List ℕ} {k op left right mask : ℕ} (G : Ground net) (I : Is net k op left right mask) where
  is_fixed : op < 2 → packed net k ≡ Fixed (eqb op 1)
  is_fixed h = I.node ∙ node_fixed op left right mask h

  pub is-reads : op ≡ 2 → packed net k ≡ Reads left
  is-reads h = I.node ∙ node_reads op left right mask h

  pub is_flips : op ≡ 3 → packed net k ≡ Flips left
  is_flips h = I.node ∙ node_flips op left right mask h

  pub is-joins : 4 ≤ op → op < 6 → packed net k ≡ Joins (eqb op 5) left right
  is-joins h l = I.node ∙ node_joins op left right mask h l

  pub is-binds : 6 ≤ op → packed net k ≡ Binds (eqb op 6) mask left
  is-binds h = I.node ∙ node_binds op left right mask h

  pub binds-is : 6 ≤ op → packed net k ≡ Binds (val (decides op)) mask left
  binds-is h = is-binds h ∙ ap (λ (b : Bool). Binds b mask left) (decides-val op)

  -- as formulas
  pub f_fixed : op ≡ 0 → formula_at net k ≡ never
  unfolding build
  f_fixed e = at_node G.ordered (is_fixed (omega arith)) ∙ rw e

  pub f-true : op ≡ 1 → formula_at net k ≡ neg never
  unfolding build
  f-true e = at_node G.ordered (is_fixed (omega arith)) ∙ rw e

  pub f-reads : op ≡ 2 → formula_at net k ≡ input left
  f-reads e = at_reads G.ordered (is-reads e)

  pub f_flips : op ≡ 3 → formula_at net k ≡ neg (formula_at net left)
  f_flips e = at_flips G.ordered (is_flips e)

  pub f-joins : {d : ℕ} → 4 ≤ op → op < 6 → d ≡ op - 3 → formula_at net k ≡ gate (val d) (formula_at net left) (formula_at net right)
  unfolding val
  f-joins {d} h l e = at-joins G.ordered (is-joins h l) ∙ ap (λ (b : Bool). gate b (formula_at net left) (formula_at net right)) (same op d e h)
    where
      same : (p q : ℕ) → q ≡ p - 3 → 4 ≤ p → eqb p 5 ≡ eqb q 2
      same p q e h = by_bool (eqb q 2) (λ i. rw i (eq-eqb p 5 (omega tests))) (λ i. rw i (ne_eqb p 5 (λ z. omega tests)))

  -- a quantifier, by the truth that decides it
  pub f-binds : 6 ≤ op → formula_at net k ≡ over (val (decides op)) mask (formula_at net left)
  f-binds h = at-binds G.ordered (binds-is h)

  -- the nodes that it names, and the variable
  pub reads-low : op ≡ 2 → left < variables
  reads-low e = subst (Ranged variables) (is-reads e) (ground_ranged G k)

  pub flips_below : op ≡ 3 → left < k
  flips_below e = fit_at G.ordered (is_flips e)

  pub joins-left : 4 ≤ op → op < 6 → left < k
  joins-left h l = (fit_at G.ordered (is-joins h l)).0

  pub joins-right : 4 ≤ op → op < 6 → right < k
  joins-right h l = (fit_at G.ordered (is-joins h l)).1

  pub binds-below : 6 ≤ op → left < k
  binds-below h = fit_at G.ordered (is-binds h)

  pub names-below : 3 ≤ op → left < k
  names-below h =
      by_bool (eqb op 3) (λ e. flips_below (omega tests)) (λ e. by_bool (ltb op 6) (λ q. joins-left (omega tests) (omega tests)) (λ q. binds-below (omega tests)))
