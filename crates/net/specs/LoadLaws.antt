-- One frame more stored as a node; and when all are, what `head` makes of it is the sheet's net. Assumes nothing.
use Rattle.std.specs.Prelude.{ℕ, ◌+◌, ◌<◌, ◌≤◌, ◌≡◌, Bool, true, false, List, eqb, ltb, length, get_or, set}
use Rattle.std.proofs.Common.{arith, sym, ◌∙◌, length-set, get_or-set_same, get_or-set_other, ltb-true, eqb-true}
use Rattle.std.proofs.Math.Path.{ap, ap₂, fun_ext}
use Rattle.std.proofs.lemmas.List.{length-replicate, get_or-replicate}
use Rattle.std.proofs.Math.ListN.{get_or-eq_default}
use Rattle.words.specs.Logic.{tests}
use Rattle.words.proofs.Logic.{by_bool, clash}
use Rattle.words.specs.Word.{bit}
use Rattle.words.specs.Mask.{range_mask}
use Rattle.words.proofs.Mask.{apart-bits}
use Rattle.formula.proofs.Ask.{bit-free}
use Rattle.formula.proofs.ReasonWord.{within-range}
use Rattle.sheet.specs.declared.Kind.{Kind}
use Rattle.sheet.specs.declared.Kind.TheVariants.{Never, Input, Not, And, Or, Exists, Forall, Gauge}
use Rattle.form.proofs.FormLaws.{most-place, few-variables}
use Rattle.form.specs.declared.Form.{Form}
use Rattle.sheet.specs.Fields.{Sheet, frames, variables, kind}
use Rattle.sheet.specs.Frames.{formula}
use Rattle.sheet.proofs.Frames.{kind-past}
use Rattle.sheet.specs.Frames as Sheets
use Rattle.sheet.proofs.Frames as SheetsLaws
use Rattle.sheet.specs.Rules.{binds, gauges}
use Rattle.sheet.proofs.AcceptedLaws.{ordered-bounded}
use Rattle.net.specs.Net.{Fixed, Binds, Net, meaning, fit_at, replace-here, replace-other, Ranged, Clear, Distinct}
use Rattle.net.specs.Decode.{node_of_kind, decoded, decoded-ordered, decoded-value, decoded-free}
use Rattle.net.specs.Layout.{net_words, form_words, first_word, second_word, unpack, packed}
use Rattle.net.specs.Stands.{Stands, stands_serves}
use Rattle.net.specs.StoreLaws.{Stored, stored-long, stored_other, stored_net, none-behind}
use Rattle.net.specs.Sheet.{Checked, NetOf, last}
use Rattle.net.specs.Load.{bound_of, empty_net, Empty, Loading}

-- a frame names frames and variables whose numbers fit a node's bits
pub loading_fit : {s : Sheet} {net : List ℕ} {k : ℕ} {d : Kind} → Loading s net k → d ≡ kind s k → Sheets.Fit 64 4096 d
loading_fit {s} {net} {k} {d} L e = rw e (SheetsLaws.fit-more (variables s) 64 k 4096 (kind s k) (few-variables s.form) (omega (arith, L.within, L.few, most-place s.form)) (L.ordered.fit k))

-- nothing is stored yet
pub loading_none : {s : Sheet} {net : List ℕ} {free : ℕ} → Checked s free → Empty s.form net → Loading s net 0
loading_none {s} {net} C E =
    record {
      ordered = C.ordered;
      few = C.few;
      long = ap length E.is ∙ length-replicate {A = ℕ} (net_words s.form) 0;
      within = omega arith;
      nodes = λ j h. absurd (omega arith);
      behind = λ i h. ap (λ (l : List ℕ). get_or l i 0) E.is ∙ zero-at s.form i;
    }
  where
    zero-at : (F : Form) (i : ℕ) → get_or (empty_net F) i 0 ≡ 0
    zero-at F i =
        by_bool (ltb i (net_words F))
        (λ e. get_or-replicate (net_words F) i 0 0 (ltb-true i (net_words F) e))
        (λ e. get_or-eq_default (empty_net F) 0 {n = i} (omega (tests, length-replicate {A = ℕ} (net_words F) 0)))

-- one more
pub loading_next : {s : Sheet} {net net' : List ℕ} {k mask : ℕ} {d : Kind} (word : ℕ) → Loading s net k → k < frames s → d ≡ kind s k → unpack word (bound_of d) ≡ node_of_kind d → mask ≡ bound_of d
    → net' ≡ set (set net (first_word k) word) (second_word k) mask → Loading s net' (k + 1)
loading_next {s} {net} {net'} {k} {mask} {d} word L h e u m n =
    let S : Stored net k word mask net' = record { is = n } in
    let now = stored_net S (omega (arith, L.long, L.few)) in
    record {
      ordered = L.ordered;
      few = L.few;
      long = stored-long S ∙ L.long;
      within = omega arith;
      nodes = λ j l. by_bool (eqb j k)
          (λ q. rw (eqb-true j k q) (ap (λ (N : Net). N k) now ∙ replace-here (packed net) k (unpack word mask) ∙ ap (unpack word) m ∙ u ∙ ap node_of_kind e))
          (λ q. ap (λ (N : Net). N j) now ∙ replace-other (packed net) k (unpack word mask) j q ∙ L.nodes j (omega tests));
      behind = λ i l. stored_other S i (λ z. omega arith) (λ z. omega arith) ∙ L.behind i (omega arith);
    }

-- ---- all of them

-- a quantifier's mask has the variables that its frame binds
mask-binds : (u : Kind) {d : Bool} {m x : ℕ} → node_of_kind u ≡ Binds d m x → (v : ℕ) → bit m v ≡ binds u v
unfolding node_of_kind binds
mask-binds Never e v = absurd (let z : ◌≡◌ {A = ℕ} 0 1 = cc in omega arith)
mask-binds (Input y) e v = absurd (let z : ◌≡◌ {A = ℕ} 0 1 = cc in omega arith)
mask-binds (Not a) e v = absurd (let z : ◌≡◌ {A = ℕ} 0 1 = cc in omega arith)
mask-binds (And a b) e v = absurd (let z : ◌≡◌ {A = ℕ} 0 1 = cc in omega arith)
mask-binds (Or a b) e v = absurd (let z : ◌≡◌ {A = ℕ} 0 1 = cc in omega arith)
mask-binds (Exists a b c) {d} {m} {x} e v = let z : range_mask b c ≡ m = cc in ap (λ (w : ℕ). bit w v) (sym z) ∙ within-range b c v
mask-binds (Gauge y) e v = absurd (let z : ◌≡◌ {A = ℕ} 0 1 = cc in omega arith)
mask-binds (Forall a b c) {d} {m} {x} e v = let z : range_mask b c ≡ m = cc in ap (λ (w : ℕ). bit w v) (sym z) ∙ within-range b c v

-- a frame that binds a variable is one of the sheet's
binds_in : (s : Sheet) (k v : ℕ) → binds (kind s k) v ≡ true → k < frames s
unfolding binds
binds_in s k v e =
    by_bool (ltb k (frames s))
    (λ h. ltb-true k (frames s) h)
    (λ h. clash (binds (kind s k) v) e (ap (λ (u : Kind). binds u v) (kind-past s k (omega tests))))

kind_ranged : (n k : ℕ) (u : Kind) → Sheets.Fit n k u → Ranged n (node_of_kind u)
unfolding node_of_kind
kind_ranged n k Never w = tt
kind_ranged n k (Input x) w = w
kind_ranged n k (Not a) w = tt
kind_ranged n k (And a b) w = tt
kind_ranged n k (Or a b) w = tt
kind_ranged n k (Exists a b c) w = tt
kind_ranged n k (Forall a b c) w = tt
kind_ranged n k (Gauge x) w = w

-- what a checked sheet's rules give its net
module _ {s : Sheet} {free : ℕ} (C : Checked s free) where
  decoded-binds : (k : ℕ) {d : Bool} {m x : ℕ} → decoded (kind s) k ≡ Binds d m x → (v : ℕ) → bit m v ≡ binds (kind s k) v
  unfolding decoded
  decoded-binds k e v = mask-binds (kind s k) e v

  decoded_ranged : (k : ℕ) → Ranged (variables s) (decoded (kind s) k)
  unfolding decoded
  decoded_ranged k = kind_ranged (variables s) k (kind s k) (C.ordered.fit k)

  decoded-stands : (k : ℕ) → Stands (formula s k) (meaning (decoded (kind s)) k)
  decoded-stands k = record { same = decoded-value (variables s) (kind s) C.ordered k; reads = decoded-free (variables s) (kind s) C.ordered k }

  decoded_distinct : Distinct (decoded (kind s))
  decoded_distinct =
      record {
        below = λ k {m = m} e. record {
          apart = λ j {m = m'} h e'. apart-bits m' m (λ v b. by_bool (bit m v)
              (λ t.
              let p = sym (decoded-binds j e' v) ∙ b in
              let q = sym (decoded-binds k e v) ∙ t in
              absurd (omega (arith, C.once j k v (binds_in s j v p) (binds_in s k v q) p q, fit_at (decoded-ordered (variables s) (kind s) C.ordered) e)))
              (λ t. t));
        };
      }

  decoded-clear : Clear (decoded (kind s)) (last s) free
  decoded-clear =
      record {
        apart = λ j {m = m} h e. apart-bits m free (λ v b.
            let p = sym (decoded-binds j e v) ∙ b in
            ap (λ (w : ℕ). bit w v) C.opens ∙ bit-free (ordered-bounded (variables s) (kind s) C.ordered (last s)) v ∙ C.closed j v (binds_in s j v p) p);
      }

-- every frame is stored, and the head is set
module _ {s : Sheet} {net : List ℕ} (L : Loading s net (frames s)) (free gs : ℕ) where
  abbrev headed : List ℕ
  headed = set (set (set net 0 (frames s)) 1 free) 2 gs

  headed-long : length headed ≡ net_words s.form
  headed-long = length-set (set (set net 0 (frames s)) 1 free) 2 gs ∙ length-set (set net 0 (frames s)) 1 free ∙ length-set net 0 (frames s) ∙ L.long

  headed-other : (i : ℕ) → 3 ≤ i → get_or headed i 0 ≡ get_or net i 0
  headed-other i l =
      get_or-set_other (set (set net 0 (frames s)) 1 free) 2 i gs 0 (λ z. omega arith)
      ∙ get_or-set_other (set net 0 (frames s)) 1 i free 0 (λ z. omega arith) ∙ get_or-set_other net 0 i (frames s) 0 (λ z. omega arith)

  headed-count : get_or headed 0 0 ≡ frames s
  headed-count = get_or-set_other (set (set net 0 (frames s)) 1 free) 2 0 gs 0 (λ z. omega arith) ∙ get_or-set_other (set net 0 (frames s)) 1 0 free 0 (λ z. omega arith) ∙ get_or-set_same net 0 (frames s) 0 (omega (arith, L.long))

  headed_opens : get_or headed 1 0 ≡ free
  headed_opens =
      get_or-set_other (set (set net 0 (frames s)) 1 free) 2 1 gs 0 (λ z. omega arith)
      ∙ get_or-set_same (set net 0 (frames s)) 1 free 0 (omega (arith, L.long, length-set net 0 (frames s)))

  headed-gauged : get_or headed 2 0 ≡ gs
  headed-gauged = get_or-set_same (set (set net 0 (frames s)) 1 free) 2 gs 0 (omega (arith, L.long, length-set (set net 0 (frames s)) 1 free, length-set net 0 (frames s)))

  headed_node : (k : ℕ) → packed headed k ≡ packed net k
  unfolding packed
  headed_node k = ap₂ unpack (headed-other (first_word k) (omega arith)) (headed-other (second_word k) (omega arith))

  headed-past : (k : ℕ) → frames s ≤ k → packed headed k ≡ Fixed false
  headed-past k l = headed_node k ∙ none-behind net (frames s) L.behind k l

  headed-is : packed headed ≡ decoded (kind s)
  unfolding decoded node_of_kind
  headed-is =
      fun_ext (λ k. by_bool (ltb k (frames s))
      (λ t. headed_node k ∙ L.nodes k (omega tests))
      (λ t. headed-past k (omega tests) ∙ ap node_of_kind (sym (kind-past s k (omega tests)))))

-- that is the sheet's net
pub loaded_net : {s : Sheet} {net net' : List ℕ} {n free gs : ℕ} → Checked s free → gs ≡ gauges s → Loading s net (frames s) → n ≡ frames s → net' ≡ set (set (set net 0 n) 1 free) 2 gs → NetOf s net'
loaded_net {s} {net} {net'} {n} {free} {gs} C q L e h =
    let is = headed-is L free gs in
    let count = headed-count L free gs in
    let opens = headed_opens L free gs in
    let long = headed-long L free gs in
    rw (h, e) (record {
      grounded = record {
        ordered = rw is (decoded-ordered (variables s) (kind s) C.ordered);
        ranged = λ k. rw (is, form_words s.form _ long) (decoded_ranged C k);
        distinct = rw is (decoded_distinct C);
        room = omega (arith, count, long, C.few);
        few = omega (arith, long, most-place s.form);
      };
      long = long;
      count = count;
      opens = opens ∙ C.opens;
      gauged = headed-gauged L free gs ∙ q;
      bounded = ordered-bounded (variables s) (kind s) C.ordered (last s);
      each = λ k l q. rw is (decoded-stands C k);
      ends = rw is (stands_serves (decoded-stands C (last s)));
      clear = rw (is, opens) (decoded-clear C);
      empty = λ i l. headed-other L free gs i (omega arith) ∙ L.behind i (omega (arith, count));
    })
