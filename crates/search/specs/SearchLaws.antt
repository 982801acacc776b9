-- The laws of the search's steps: what a search or a check asks of the next one, and what it shows of the one before. Assumes nothing.
use Rattle.std.specs.Prelude.{ℕ, ◌+◌, ◌-◌, ◌*◌, ◌≤◌, ◌<◌, ◌^◌, ◌≡◌, refl, Bool, true, false, List, length, eqb}
use Rattle.std.proofs.Common.{arith, ◌∙◌}
use Rattle.std.proofs.Math.Path.{ap}
use Rattle.std.specs.Int.Bits.{bit_or}
use Rattle.words.specs.Logic.{tests}
use Rattle.words.proofs.Logic.{by_bool, or_left, or_right}
use Rattle.words.specs.Word.{bit}
use Rattle.words.proofs.Bits.{bit-or, bit-none, ext}
use Rattle.words.specs.Mask.{Apart, without}
use Rattle.words.proofs.Mask.{bits_apart, apart-sub, apart-sym, without_sub, without-apart}
use Rattle.cube.specs.Cube.{Fixed}
use Rattle.formula.specs.Formula.{Formula, free}
use Rattle.formula.proofs.Reason.{explains_neg, gate-left, gate-right, explains_set}
use Rattle.formula.proofs.ReasonWord.{word-never, word-input, word-both}
use Rattle.form.specs.Form.{record_start}
use Rattle.form.specs.declared.Form.{Form}
use Rattle.records.specs.Both.{Tables}
use Rattle.formula.proofs.Over.{over-free}
use Rattle.net.specs.Net.{Clear}
use Rattle.net.specs.Clear.{clear_less, clear-sub, clear_or}
use Rattle.net.specs.Stands.{mask_decided, mask-undecided}
use Rattle.net.specs.Layout.{frames_of, free_of, packed, formula_at, Is, val, val-not, val_flip, decides, decides-some, decides-low, binds-is}
use Rattle.net.specs.Layout.{f_fixed, f-true, f-reads, f_flips, f-joins, f-binds, flips_below, joins-left, joins-right, binds-below}
use Rattle.judge.specs.Judge.{Right, Judged}
use Rattle.proxies.specs.Growing.{Growing}
use Rattle.proxies.specs.Kept.{Shown}
use Rattle.proxies.specs.KeptLaws.{told_of}
use Rattle.search.specs.Search.{Met, Lost, Solved, Lent, Posed, Checked, Told, Leaf}
use Rattle.imply.specs.Halves.{met_known, apart-inside, bit_plus, or-none, off-sub, off-mask, half-clear, half-free, half-same}
use Rattle.judge.specs.JudgeLaws.{judged_fixed, judged-inner}

-- ---- known values

module _ {net : List ℕ} {a t loose m w : ℕ} {cells : List ℕ} (P : Posed net a t loose m w cells) where
  pub known_met : {v r : ℕ} → 0 < v → Right net m w a v r → v ≡ t → Met (formula_at net a) (val t) (free_of net) loose w w r
  known_met s f e = met_known loose (rw e at (f s).explains)

  pub known-lost : {v r : ℕ} → 0 < v → Right net m w a v r → (v ≡ t → ⊥) → Lost (formula_at net a) (val t) loose w r
  known-lost {v} s f n = record { explains = rw (val-not v t s (f s).low P.target_some P.target_low n) at (f s).explains; apart = apart-inside (f s).assigned P.free.apart }

  -- nothing is left to search
  pub known_solved : {v r : ℕ} (found : Bool) → 0 < v → Right net m w a v r → (found ≡ true → v ≡ t) → (found ≡ false → v ≡ t → ⊥) → Solved net a t loose w found w r
  known_solved true s f y n = known_met s f (y refl)
  known_solved false s f y n = known-lost s f (n refl)

  pub posed_cells : {cells' : List ℕ} → Judged net m w cells' → Posed net a t loose m w cells'
  posed_cells j = record {
    grounded = P.grounded;
    here = P.here;
    target_some = P.target_some;
    target_low = P.target_low;
    free = P.free;
    covers = P.covers;
    clear = P.clear;
    judged = j;
  }

  -- nothing is loose: a full candidate
  pub posed_checked : loose ≡ 0 → Checked net a m w cells
  posed_checked e =
      let same : bit_or m loose ≡ m = ext (bit_or m loose) m (λ k. bit-or m loose k ∙ or-none (bit m k) (bit loose k) (rw e (bit-none k))) in
      record { grounded = P.grounded; here = omega (arith, P.here); covers = rw same at P.covers; clear = rw same at P.clear; judged = P.judged }

-- the value of a full candidate decides the search
module _ {net : List ℕ} {a t loose m w v r : ℕ} {cells : List ℕ} (P : Posed net a t loose m w cells) (T : Told net m w a v r) where
  pub told_solved : (found : Bool) → (found ≡ true → v ≡ t) → (found ≡ false → v ≡ t → ⊥) → Solved net a t loose w found w r
  told_solved found = known_solved P found T.some (λ s. T.forced)

-- ---- a loose variable x fixed

module _ {net : List ℕ} {a t loose m w x p rest : ℕ} {cells : List ℕ} (L : bit loose x ≡ true) (l : x < 64) (ep : p ≡ 2 ^ x) (er : rest ≡ without loose p) (P : Posed net a t loose m w cells) where
  pub posed_half : {b : Bool} {m' w' : ℕ} → Fixed 64 m w x b m' w' → Posed net a t rest m' w' cells
  posed_half F =
      let same = half-same L l ep er P.free F in
      record {
        grounded = P.grounded;
        here = P.here;
        target_some = P.target_some;
        target_low = P.target_low;
        free = half-free L l ep er P.free F;
        covers = rw same P.covers;
        clear = rw same P.clear;
        judged = judged_fixed F (half-clear L l ep er P.free) P.judged;
      }

-- ---- a full candidate, by kind of node

pub told-known : {net : List ℕ} {m w i v r : ℕ} → 0 < v → Right net m w i v r → Told net m w i v r
told-known s f = record { some = s; forced = f s }

-- a reason has variables that the node reads, so they are assigned
module _ {net : List ℕ} {i m w op left right mask : ℕ} {cells : List ℕ} (K : Checked net i m w cells) (I : Is net i op left right mask) where
  pub told_leaf : {v r : ℕ} → op < 3 → Leaf op left w v r → Told net m w i v r
  unfolding val
  told_leaf {v} {r} h f =
      told_of K.covers f.some f.low
      (by_bool (eqb op 0)
      (λ e. let q = f.never (omega tests) in rw (q.0, q.1, f_fixed K.grounded I (omega tests)) (word-never (bit w)))
      (λ e. by_bool (eqb op 1)
      (λ e'. let q = f.always (omega tests) in rw (q.0, q.1, f-true K.grounded I (omega tests)) (explains_neg (word-never (bit w))))
      (λ e'. let q = f.reads (omega tests) in rw (f-reads K.grounded I (omega tests), q.0, q.1) (word-input left (bit w)))))

  pub told_flip : {v r : ℕ} → op ≡ 3 → Told net m w left v r → Told net m w i (3 - v) r
  told_flip {v} e T =
      told_of K.covers (omega (arith, T.forced.low)) (omega (arith, T.some))
      (rw (f_flips K.grounded I e, val_flip v T.some T.forced.low) (explains_neg T.forced.explains))

  -- a node that it names, all of whose variables it reads
  checked_named : {k : ℕ} {cells' : List ℕ} → k < i → ((x : ℕ) → free (formula_at net k) x ≡ true → free (formula_at net i) x ≡ true) → Judged net m w cells' → (k < frames_of net + 2) × Checked net k m w cells'
  checked_named l h j = (
    omega (arith, l, K.here),
    record {
      grounded = K.grounded;
      here = omega (arith, l, K.here);
      covers = record { all = λ x e. K.covers.all x (h x e) };
      clear = clear_less K.clear (omega (arith, l));
      judged = j;
    },
  )

  pub checked_flip : {cells' : List ℕ} → op ≡ 3 → Judged net m w cells' → (left < frames_of net + 2) × Checked net left m w cells'
  unfolding free
  checked_flip e j = checked_named (flips_below K.grounded I e) (λ x h. ap (λ (f : Formula). free f x) (f_flips K.grounded I e) ∙ h) j

  module _ (l : 4 ≤ op) (h : op < 6) where
    pub checked_left : {cells' : List ℕ} → Judged net m w cells' → (left < frames_of net + 2) × Checked net left m w cells'
    unfolding free
    checked_left j =
        checked_named (joins-left K.grounded I l h)
        (λ x e. ap (λ (f : Formula). free f x) (f-joins K.grounded I l h refl) ∙ or_left (free (formula_at net left) x) (free (formula_at net right) x) e) j

    pub checked_right : {cells' : List ℕ} → Judged net m w cells' → (right < frames_of net + 2) × Checked net right m w cells'
    unfolding free
    checked_right j =
        checked_named (joins-right K.grounded I l h)
        (λ x e. ap (λ (f : Formula). free f x) (f-joins K.grounded I l h refl) ∙ or_right (free (formula_at net left) x) (free (formula_at net right) x) e) j

    pub told-left : {d v r : ℕ} → d ≡ op - 3 → Told net m w left v r → v ≡ d → Told net m w i v r
    told-left {d} {v} ed T e =
        told_of K.covers T.some T.forced.low (rw (f-joins K.grounded I l h ed, e) (gate-left (formula_at net right) (rw e at T.forced.explains)))

    pub told-right : {d v r : ℕ} → d ≡ op - 3 → Told net m w right v r → v ≡ d → Told net m w i v r
    told-right {d} {v} ed T e =
        told_of K.covers T.some T.forced.low (rw (f-joins K.grounded I l h ed, e) (gate-right (formula_at net left) (rw e at T.forced.explains)))

    pub told-both : {d v r z q : ℕ} → d ≡ op - 3 → Told net m w left v r → (v ≡ d → ⊥) → Told net m w right z q → (z ≡ d → ⊥) → Told net m w i z (bit_or r q)
    told-both {d} {v} {r} {z} {q} ed S n T k =
        let e : v ≡ z = omega (arith, S.some, S.forced.low, T.some, T.forced.low) in
        told_of K.covers T.some T.forced.low (rw (f-joins K.grounded I l h ed) (word-both (val d) r q (rw e at S.forced.explains) T.forced.explains))

  -- ---- a quantifier, from the search of its body

  module _ (l : 6 ≤ op) where
    -- no variable that it binds is assigned
    bound-free : Apart m mask
    bound-free = apart-sym (K.clear.apart i (omega arith) (binds-is K.grounded I l))

    bound-clear : Clear (packed net) left mask
    bound-clear = K.grounded.distinct.below i (binds-is K.grounded I l)

    pub posed_body : {d m' w' : ℕ} → d ≡ decides op → m' ≡ without m mask → w' ≡ without w mask → Posed net left d mask m' w' cells
    posed_body {d} ed em ew = record {
      grounded = K.grounded;
      here = omega (arith, K.here, binds-below K.grounded I l);
      target_some = rw ed (decides-some op);
      target_low = rw ed (decides-low op);
      free = record { apart = rw em (without-apart m mask); clear = rw ew (without-apart w mask) };
      covers = record {
        all = λ x e. rw em (bit-or (without m mask) mask x ∙ by_bool (bit mask x)
            (λ q. or_right (bit (without m mask) x) (bit mask x) q)
            (λ q. or_left (bit (without m mask) x) (bit mask x) (off-mask m mask x q
            ∙ K.covers.all x (ap (λ (f : Formula). free f x) (f-binds K.grounded I l) ∙ over-free (val (decides op)) mask (formula_at net left) x ∙ rw (e, q)))));
      };
      clear = rw em (clear_or (clear-sub (clear_less K.clear (omega (arith, binds-below K.grounded I l))) (without_sub m mask)) bound-clear);
      judged = judged-inner em ew bound-free K.judged;
    }

    told-found : {word r : ℕ} → Met (formula_at net left) (val (decides op)) (free_of net) mask (without w mask) word r → Told net m w i (decides op) (without r mask)
    told-found {word} {r} h =
        told_of K.covers (decides-some op) (decides-low op) (rw (f-binds K.grounded I l) (explains_set (mask_decided (val (decides op)) mask r h.explains) (bit w) (λ k q.
        let n = bits_apart (without-apart r mask) k q in
        ap (λ (y : ℕ). bit y k) h.is
        ∙ bit_plus (apart-sub (without-apart w mask) h.inside) k
        ∙ or-none (bit (without w mask) k) (bit h.chosen k) (off-sub h.inside k n)
        ∙ off-mask w mask k n)))

    told-lost : {r : ℕ} → Lost (formula_at net left) (val (decides op)) mask (without w mask) r → Told net m w i (3 - decides op) r
    told-lost {r} h =
        told_of K.covers (omega (arith, decides-low op)) (omega (arith, decides-some op)) (rw (f-binds K.grounded I l, val_flip (decides op) (decides-some op) (decides-low op))
        (explains_set (mask-undecided (val (decides op)) mask r h.explains h.apart) (bit w) (λ k q. off-mask w mask k (bits_apart h.apart k q))))

    pub told-shown : (found : Bool) (word : ℕ) {reason v r : ℕ} → Solved net left (decides op) mask (without w mask) found word reason → Shown op mask found reason v r → Told net m w i v r
    told-shown true word h s = rw ((s.met refl).0, (s.met refl).1) (told-found h)
    told-shown false word h s = rw ((s.missed refl).0, (s.missed refl).1) (told-lost h)

-- ---- what is lent, after a call

pub lent-after : {net wants wants' u u' : List ℕ} {cu cu' : ℕ} {o o' : List ℕ} {co co' : ℕ}
    → Lent net wants u cu o co → Growing net u cu o co u' cu' o' co' → length wants' ≡ length wants → Lent net wants' u' cu' o' co'
lent-after L g e = record { long = rw e L.long; φ = L.φ; faithful = L.faithful; tables = g.true-still L.φ L.faithful L.tables }

-- counted records fit, in the form as the code has it
pub tables_fit : {F G : Form} {φ : ℕ → Formula} {n : ℕ} {u : List ℕ} {cu : ℕ} {o : List ℕ} {co : ℕ} → F ≡ G → Tables G φ n u cu o co
    → (record_start F cu ≤ length u) × (record_start F co ≤ length o)
tables_fit e T = (rw e T.under.fits, rw e T.over.fits)

-- ---- the measure of a call: first the node, then the loose variables as a word. A node is worth more than every word

abbrev pub per_node : ℕ
per_node = 295147905179352825856

pub body_less : {i left mask t : ℕ} → i * per_node + 2 ≡ t → left < i → mask < 18446744073709551616 → left * per_node + (8 * mask + 11) < t
body_less e l h = omega (arith, e, l, h)
