-- Source 000's L and L' and the search, from what the code ensures. What a record says of a child is the only value that L leaves to its proxy
-- (`recorded_leaves`), L excludes no candidate that has the truth that is looked for (`true_in_L`), and one that is found satisfies L' where every
-- child's value is known (`found`). Assumes nothing.
use Rattle.std.specs.Prelude.{ℕ, ◌+◌, ◌-◌, ◌≤◌, ◌<◌, ◌≡◌, refl, Bool, true, false, List, length}
use Rattle.std.proofs.Common.{arith, ◌∙◌, ap₂, inl, inr, lt-ltb, le-ltb}
use Rattle.std.proofs.Math.Path.{sym, ap}
use Rattle.std.proofs.Math.Bool.{not}
use Rattle.words.specs.Logic.{tests}
use Rattle.words.proofs.Logic.{clash}
use Rattle.words.specs.Word.{bit}
use Rattle.formula.specs.Assignment.{join}
use Rattle.formula.specs.Formula.{Formula, truth, free}
use Rattle.formula.proofs.Reason.{explains_truth}
use Rattle.form.specs.Form.{room}
use Rattle.form.proofs.FormLaws.{few-variables}
use Rattle.records.specs.Table.{Valid, Kept}
use Rattle.records.proofs.Table.{kept_grown}
use Rattle.records.specs.Both.{Tables}
use Rattle.net.specs.Net.{Node, Fixed, Reads, Flips, Joins, Binds, Fit, Ordered, Ranged, fit_at, at_fixed, at_reads, at_flips, at-joins, upward}
use Rattle.net.specs.Stands.{stands-sym, explains_stands}
use Rattle.net.specs.Sheet.{Faithful}
use Rattle.net.specs.Layout.{net_form, frames_of, packed, changed, formula_at, Ground, val, ground_ranged, ground_bounded}
use Rattle.proxies.specs.Kept.{all, low_word}
use Rattle.proxies.specs.Growing.{Growing}
use Rattle.proxies.specs.Lookahead.{proxy, proxied, body, Agreeing, Allowed, L, L', Settled}
use Rattle.proxies.specs.LookaheadLaws.{completed, matching}

-- ---- a child whose value is known

-- it stays so while the tables grow
pub settled_grown : {net u u' : List ℕ} {cu cu' : ℕ} {o o' : List ℕ} {co co' m w b : ℕ}
    → Growing net u cu o co u' cu' o' co' → Settled net m w u cu o co b → Settled net m w u' cu' o' co' b
settled_grown {net} {w = w} {b = b} g q = record {
  value = q.value;
  reason = q.reason;
  told = q.told;
  noted = record {
    under = λ e. kept_grown b (all (net_form net)) (low_word (net_form net) w) g.under (q.noted.under e);
    over = λ e. kept_grown b (all (net_form net)) (low_word (net_form net) w) g.over (q.noted.over e);
  };
}

completed-low : (net : List ℕ) (w k : ℕ) → k < 64 → completed net w k ≡ bit w k
unfolding completed
completed-low net w k h = rw (lt-ltb k 64 h)

past : (n b : ℕ) → (n + b - n ≡ b) × (n ≤ n + b)
past n b = (omega arith, omega arith)

completed-proxy : (net : List ℕ) (w b : ℕ) → completed net w (proxy b) ≡ truth (formula_at net b) (bit w)
unfolding completed
completed-proxy net w b = rw (le-ltb (proxy b) 64 (past 64 b).1) (ap (λ (k : ℕ). truth (formula_at net k) (bit w)) (past 64 b).0)

-- F names earlier nodes as the net does
fit-proxied : (k : ℕ) (d : Node) → Fit k d → Fit k (proxied k d)
unfolding proxied
fit-proxied k (Fixed v) f = tt
fit-proxied k (Reads x) f = tt
fit-proxied k (Flips a) f = f
fit-proxied k (Joins d a b) f = f
fit-proxied k (Binds d m a) f = tt

proxied-ordered : (net : List ℕ) → Ordered (packed net) → Ordered (λ j. proxied j (packed net j))
proxied-ordered net o = record { fit = λ k. fit-proxied k (packed net k) (o.fit k) }

module _ {net : List ℕ} (G : Ground net) (w : ℕ) where
  abbrev Claim : ℕ → Type 0
  Claim k = truth (body net k) (completed net w) ≡ truth (formula_at net k) (bit w)

  by_node : (k : ℕ) → ((x : ℕ) → x < k → Claim x) → (d : Node) → packed net k ≡ d → Ranged 64 d → Claim k
  unfolding body proxied truth
  by_node k f (Fixed v) e r = at_fixed (proxied-ordered net G.ordered) (rw e) (completed net w) ∙ sym (at_fixed G.ordered e (bit w))
  by_node k f (Reads x) e r = rw (at_reads (proxied-ordered net G.ordered) {k = k} {x = x} (rw e), at_reads G.ordered e) (completed-low net w x r)
  by_node k f (Flips x) e r =
      rw (at_flips (proxied-ordered net G.ordered) {k = k} {a = x} (rw e), at_flips G.ordered e) (ap not (f x (fit_at G.ordered e)))
  by_node k f (Joins d x y) e r =
      let l = fit_at G.ordered e in
      rw (at-joins (proxied-ordered net G.ordered) {k = k} {d = d} {a = x} {b = y} (rw e), at-joins G.ordered e) (ap₂ (join d) (f x l.0) (f y l.1))
  by_node k f (Binds d m x) e r =
      ap (λ (g : Formula). truth g (completed net w)) (at_reads (proxied-ordered net G.ordered) {k = k} {x = proxy k} (rw e)) ∙ completed-proxy net w k

  -- F of a node has the body's truth
  pub completed-body : (k : ℕ) → truth (body net k) (completed net w) ≡ truth (formula_at net k) (bit w)
  completed-body = upward (λ k. Claim k) (λ k f. by_node k f (packed net k) refl (ground_ranged G k))

  -- ---- true tables

  -- a record of a true table that agrees with the completed candidate has the node's truth: its variables are free in the node, and so below 64
  agreeing_truth : {φ : ℕ → Formula} {t : List ℕ} {count b : ℕ} {v : Bool} → Faithful φ net → Valid (net_form net) φ (frames_of net) v t count → changed net b ≡ false
      → Agreeing (net_form net) t count b (completed net w) → completed net w (proxy b) ≡ v
  agreeing_truth {b = b} A T q c =
      let h = T.each c.at c.counted in
      let below : b < frames_of net = rw c.frame at h.below in
      let e = explains_stands (stands-sym (A.each b below q)) (rw c.frame at h.explains) in
      completed-proxy net w b
      ∙ e.forces (bit w) (λ k i. sym (completed-low net w k ((ground_bounded G b).below k (e.inside k i))) ∙ c.agrees k i)

  module _ {φ : ℕ → Formula} {u : List ℕ} {cu : ℕ} {o : List ℕ} {co : ℕ} (A : Faithful φ net) (T : Tables (net_form net) φ (frames_of net) u cu o co) where
    -- b.U implies b and b implies b.O, so that the completed candidate has b.p ⇒ b.O and ¬b.p ⇒ ¬b.U
    pub true_allowed : Allowed net u cu o co (completed net w)
    true_allowed = record {
      true-proxy = λ b q p c. clash (completed net w (proxy b)) p (agreeing_truth A T.over q c);
      false-proxy = λ b q p c. clash (completed net w (proxy b)) (agreeing_truth A T.under q c) p;
    }

    -- Law 2. L excludes no candidate that gives the body the target's truth.
    pub true_in_L : {a : ℕ} {t : Bool} → truth (formula_at net a) (bit w) ≡ t → L net u cu o co a t (completed net w)
    true_in_L {a} e = record { holds = completed-body a ∙ e; allowed = true_allowed }

  -- ---- L'

  -- a record that the search kept of a child agrees with the candidate: b.U holds of it (under table), or b.O does not (over table)
  kept_agreeing : {t : List ℕ} {count b : ℕ} → count < room (net_form net) (length t) → Kept (net_form net) t count b (all (net_form net)) (low_word (net_form net) w) → Agreeing (net_form net) t count b (completed net w)
  kept_agreeing h (inl l) = absurd (omega arith)
  kept_agreeing h (inr (j, l, e)) = matching w (completed net w) (λ k i. completed-low net w k (omega (arith, few-variables (net_form net)))) l e

  -- such a child has its part of L', as long as the tables have room
  module _ {m : ℕ} {u : List ℕ} {cu : ℕ} {o : List ℕ} {co b : ℕ} (q : Settled net m w u cu o co b) where
    proxy-is : completed net w (proxy b) ≡ val q.value
    proxy-is = completed-proxy net w b ∙ explains_truth q.told.forced.explains

    pub settled-true : cu < room (net_form net) (length u) → completed net w (proxy b) ≡ true → Agreeing (net_form net) u cu b (completed net w)
    unfolding val
    settled-true h p = kept_agreeing h (q.noted.under (omega (tests, sym proxy-is ∙ p)))

    pub settled-false : co < room (net_form net) (length o) → completed net w (proxy b) ≡ false → Agreeing (net_form net) o co b (completed net w)
    unfolding val
    settled-false h p = kept_agreeing h (q.noted.over (omega (tests, q.told.some, q.told.forced.low, sym proxy-is ∙ p)))

  -- Law 3. The candidate w gives the body the target's truth, and each child's value is known. Then L' holds of the candidate, as long as the tables
  -- have room. (A child that the body's value does not need is not checked, and may have no record; a changed one, and one behind the frames, has none.)
  pub found : {m : ℕ} {u : List ℕ} {cu : ℕ} {o : List ℕ} {co a : ℕ} {t : Bool} → cu < room (net_form net) (length u) → co < room (net_form net) (length o) → truth (formula_at net a) (bit w) ≡ t
      → ((b : ℕ) → free (body net a) (proxy b) ≡ true → Settled net m w u cu o co b) → L' net u cu o co a t (completed net w)
  found {a = a} h l e f = record {
    holds = completed-body a ∙ e;
    true-proxy = λ b i p. settled-true (f b i) h p;
    false-proxy = λ b i p. settled-false (f b i) l p;
  }
