-- A quantifier over one of its kind stored as one over both masks: the net is still that of the sheet. Assumes nothing.
use Rattle.std.specs.Prelude.{ℕ, ◌<◌, ◌≤◌, ◌≡◌, Bool, false, List, eqb}
use Rattle.std.proofs.Common.{arith, sym, ◌∙◌, ap, eqb-true}
use Rattle.std.specs.Int.Bits.{bit_or}
use Rattle.words.proofs.Logic.{by_bool}
use Rattle.words.proofs.Mask.{or_apart}
use Rattle.form.specs.Form as Sizes
use Rattle.sheet.specs.Fields.{Sheet}
use Rattle.net.specs.Net.{Node, Binds, Net, node_of, node_binds, replace, fit_at, Ordered, Clear, Distinct}
use Rattle.net.specs.Clear.{clear_less, clear_or, clear-replace, distinct_replace, ranged_replace}
use Rattle.net.specs.Stands.{stands_trans, stands_serves, serves_trans}
use Rattle.net.specs.Nest.{nest_stands, nest_ordered}
use Rattle.net.specs.Layout.{net_form, form_same, frames_of, unpack, packed, changed, Ground, Is, is-binds}
use Rattle.net.specs.StoreLaws.{Stored, stored-long, stored_other, stored-count, stored_opens, stored-gauged, stored-changed, stored_net}
use Rattle.net.specs.Sheet.{NetOf, last}

-- ---- in the net

module _ {N : Net} {k q x m n : ℕ} {d : Bool} (o : Ordered N) (outer : N k ≡ Binds d m q) (inner : N q ≡ Binds d n x) where
  pub nest_clear : {a z : ℕ} → Clear N a z → Clear (replace N k (Binds d (bit_or m n) x)) a z
  nest_clear C = clear-replace d x C (λ l. or_apart (C.apart k l outer) (C.apart q (omega (arith, fit_at o outer)) inner))

  pub nest_distinct : Distinct N → Distinct (replace N k (Binds d (bit_or m n) x))
  nest_distinct D =
      distinct_replace d x D
      (nest_clear (clear_or (clear_less (D.below k outer) (omega (arith, fit_at o inner))) (D.below q inner)))
      (λ i e z y t l. let C = D.below i t in or_apart (C.apart k l outer) (C.apart q (omega (arith, fit_at o outer)) inner))

-- ---- in the words

module _ {s : Sheet} {net net' : List ℕ} {k op left right mask op' left' right' mask' w : ℕ} (N : NetOf s net) (l : k < frames_of net) (kept : changed net k ≡ false)
    (I : Is net k op left right mask) (h : 6 ≤ op) (J : Is net left op' left' right' mask') (same : op' ≡ op)
    (W : unpack w (bit_or mask mask') ≡ node_of op left' 0 (bit_or mask mask')) (S : Stored net k w (bit_or mask mask') net') where
  abbrev both : Node
  both = Binds (eqb op 6) (bit_or mask mask') left'

  outer : packed net k ≡ Binds (eqb op 6) mask left
  outer = is-binds N.grounded I h

  inner : packed net left ≡ Binds (eqb op 6) mask' left'
  inner = rw same at (is-binds N.grounded J (omega arith))

  nested : packed net' ≡ replace (packed net) k both
  nested = stored_net S (omega (arith, N.grounded.room)) ∙ ap (replace (packed net) k) (W ∙ node_binds op left' 0 (bit_or mask mask') h)

  nested_ground : Ground net'
  nested_ground =
      record {
        ordered = rw nested (nest_ordered N.grounded.ordered outer inner);
        ranged = λ j. rw (nested, form_same net net' (stored-long S)) (ranged_replace (Sizes.variables (net_form net)) (packed net) k both N.grounded.ranged tt j);
        distinct = rw nested (nest_distinct N.grounded.ordered outer inner N.grounded.distinct);
        room = omega (arith, N.grounded.room, stored-long S, stored-count S);
        few = omega (arith, N.grounded.few, stored-long S);
      }

  unchanged : (j : ℕ) → changed net' j ≡ false → changed net j ≡ false
  unchanged j q = by_bool (eqb j k) (λ e. rw (eqb-true j k e) kept) (λ e. sym (stored-changed S j e) ∙ q)

  pub nested_net : NetOf s net'
  nested_net =
      record {
        grounded = nested_ground;
        long = stored-long S ∙ N.long;
        count = stored-count S ∙ N.count;
        opens = stored_opens S ∙ N.opens;
        bounded = N.bounded;
        each = λ j i q. rw nested (stands_trans (N.each j i (unchanged j q)) (nest_stands N.grounded.ordered outer inner j));
        ends = rw nested (serves_trans N.ends (stands_serves (nest_stands N.grounded.ordered outer inner (last s))));
        gauged = stored-gauged S ∙ N.gauged;
        clear = rw (nested, stored_opens S) (nest_clear N.grounded.ordered outer inner N.clear);
        empty = λ i h. stored_other S i (λ e. omega (arith, stored-count S)) (λ e. omega (arith, stored-count S)) ∙ N.empty i (omega (arith, stored-count S));
      }
