-- Why each turn keeps what holds between turns, and that turns come to an end. Assumes nothing.
use Rattle.std.specs.Prelude.{ℕ, zero, suc, ◌+◌, ◌-◌, ◌≤◌, ◌<◌, ◌≡◌, refl, Bool, length, get_or, set, take, eqb, ltb, Option, None, Some, Result, Ok, Err}
use Rattle.std.proofs.Common.{arith, add-one, ◌∙◌, length-append, get_or-set_same, get_or-set_other, lt-ltb, le-ltb}
use Rattle.std.proofs.lemmas.List.{get_or-take, take_more_set}
use Rattle.std.proofs.Math.Path.{sym, ap, subst}
use Rattle.std.proofs.Math.Bool.{true, false}
use mathlib.Core.List.{List, [], ◌∷◌, ◌++◌}
use Rattle.std.proofs.Math.ListN.{length-set}
use Rattle.words.specs.Logic.{tests}
use Rattle.words.proofs.Logic.{by_bool}
use Rattle.form.specs.Form as Sizes
use Rattle.form.proofs.FormLaws.{few-variables, most-place}
use Rattle.form.specs.declared.Form.{Form}
use Rattle.form.specs.declared.Form.TheVariants.{Narrow, Wide}
use Rattle.formula.specs.Formula.{Formula}
use Rattle.sheet.specs.Fields.{Sheet, frames, variables, kind}
use Rattle.sheet.specs.Frames.{formula, Fit}
use Rattle.sheet.proofs.Frames.{fit-more}
use Rattle.sheet.specs.Rules.{last}
use Rattle.sheet.specs.Keeps.{Keeps}
use Rattle.sheet.specs.declared.Kind.{Kind}
use Rattle.sheet.specs.declared.Kind.TheVariants.{Never, Not}
use Rattle.normal.specs.Normal.{fields_of, index, Placed, put, reading, gate_of, quant_of, place, gauge_of, normal_frames}
use Rattle.normal.specs.Lists.{kind_at, field_end, Fits, AllFit, Holds}
use Rattle.normal.specs.PlaceLaws.{Says, nothing, reads, denies, joins, binds, Formed, Written, formula_at, Places}
use Rattle.normal.proofs.PlaceLaws.{formed, none_written, index-le, index-hit, index-first, put-old, put-new, put_one, put-at, length_snoc, place-places, place-stays, place-again, formula-more}
use Rattle.normal.proofs.NormalLaws.{kept, sheet_says, sheet-below, last_in}
use Rattle.normal.specs.Visit.{Found, first_place, Behind, number, Puts, told, number_at, renamed, unplaced_or, first_unplaced, Renames, unplaced, stack_of, Waits, finish, left, Numbered, Visiting, Visited}
use Rattle.normal.specs.VisitLaws.{Held}

-- ---- fields of frames fit the form

most-fits : (F : Form) → Sizes.most_frames F < field_end F
most-fits Narrow = omega arith
most-fits Wide = omega arith

variables-fit : (F : Form) → Sizes.variables F < field_end F
variables-fit Narrow = omega arith
variables-fit Wide = omega arith

end-pos : (F : Form) → (0 < field_end F) × (field_end F ≤ 65536)
end-pos Narrow = (omega arith, omega arith)
end-pos Wide = (omega arith, omega arith)

module _ (F : Form) (k : ℕ) (few : k ≤ Sizes.most_frames F) where
  fits-reading : (g : Bool) (x : ℕ) → x < Sizes.variables F → Fits F (fields_of (reading g x))
  unfolding fields_of
  fits-reading true x h = record { k-fits = omega arith; a-fits = omega (arith, h, variables-fit F); b-fits = (end-pos F).0; c-fits = (end-pos F).0 }
  fits-reading false x h = record { k-fits = omega arith; a-fits = omega (arith, h, variables-fit F); b-fits = (end-pos F).0; c-fits = (end-pos F).0 }

  fits-gate : (d : Bool) (a b : ℕ) → a < k → b < k → Fits F (fields_of (gate_of d a b))
  unfolding fields_of
  fits-gate true a b h g = record { k-fits = omega arith; a-fits = omega (arith, h, few, most-fits F); b-fits = omega (arith, g, few, most-fits F); c-fits = (end-pos F).0 }
  fits-gate false a b h g = record { k-fits = omega arith; a-fits = omega (arith, h, few, most-fits F); b-fits = omega (arith, g, few, most-fits F); c-fits = (end-pos F).0 }

  fits-quant : (d : Bool) (b c a : ℕ) → a < k → b + c ≤ Sizes.variables F → Fits F (fields_of (quant_of d b c a))
  unfolding fields_of
  fits-quant true b c a h g = record { k-fits = omega arith; a-fits = omega (arith, h, few, most-fits F); b-fits = omega (arith, g, variables-fit F); c-fits = omega (arith, g, variables-fit F) }
  fits-quant false b c a h g = record { k-fits = omega arith; a-fits = omega (arith, h, few, most-fits F); b-fits = omega (arith, g, variables-fit F); c-fits = omega (arith, g, variables-fit F) }

  pub says-fits : {γ : ℕ → Bool} {d : Kind} → Says γ (Sizes.variables F) k d → Fits F (fields_of d)
  unfolding fields_of
  says-fits nothing = record { k-fits = omega arith; a-fits = (end-pos F).0; b-fits = (end-pos F).0; c-fits = (end-pos F).0 }
  says-fits {γ} (reads x h) = fits-reading (γ x) x h
  says-fits (denies a h) = record { k-fits = omega arith; a-fits = omega (arith, h, few, most-fits F); b-fits = (end-pos F).0; c-fits = (end-pos F).0 }
  says-fits (joins d a b g h) = fits-gate d a b g h
  says-fits (binds d b c a h m n) = fits-quant d b c a h n

-- the fields of every frame of a list no longer than a sheet
pub written-fit : (F : Form) {γ : ℕ → Bool} {l : List Kind} → Written γ (Sizes.variables F) l → length l ≤ Sizes.most_frames F → AllFit F l
written-fit F W few k h = says-fits F k (omega (arith, h, few)) (W.says k h)

-- ---- one frame among frames

behind-reading : (g : Bool) (x k : ℕ) → first_place (reading g x) ≤ k
behind-reading true x k = omega arith
behind-reading false x k = omega arith

behind-gate : (d : Bool) (a b k : ℕ) → a < k → b < k → first_place (gate_of d a b) ≤ k
behind-gate true a b k g h = omega arith
behind-gate false a b k g h = omega arith

behind-quant : (d : Bool) (b c a k : ℕ) → a < k → first_place (quant_of d b c a) ≤ k
behind-quant true b c a k h = omega arith
behind-quant false b c a k h = omega arith

says_behind : {γ : ℕ → Bool} {w k : ℕ} {d : Kind} → Says γ w k d → first_place d ≤ k
says_behind nothing = omega arith
says_behind {γ} {w} {k} (reads x h) = behind-reading (γ x) x k
says_behind (denies a h) = omega (arith, h)
says_behind {γ} {w} {k} (joins d a b g h) = behind-gate d a b k g h
says_behind {γ} {w} {k} (binds d b c a h m n) = behind-quant d b c a k h

module _ {ks l : List Kind} (H : Holds ks l) where
  held-kind : (k : ℕ) → k < length l → kind_at ks k ≡ kind_at l k
  held-kind k h = sym (get_or-take (length l) ks k Never h) ∙ ap (λ (m : List Kind). kind_at m k) H.begins

  held-behind : {γ : ℕ → Bool} {w n : ℕ} → Written γ w l → n ≡ length l → Behind ks n
  held-behind W e = record { behind = λ j h. let i : j < length l = omega (arith, h, e) in rw (held-kind j i) (says_behind (W.says j i)) }

  -- the frame is found where it is
  found-index : {n r : ℕ} (d : Kind) → n ≡ length l → Found ks n d r → r ≡ index d l
  found-index {n} {r} d e R =
      let i = index d l in
      let low : i ≤ r = by_bool (ltb r (length l))
      (λ t. index-first d l r (omega tests) (sym (held-kind r (omega tests)) ∙ R.hit (omega (tests, e))))
      (λ t. omega (tests, index-le d l)) in
      by_bool (ltb i r)
      (λ t. let h : i < length l = omega (tests, R.within, e) in
      absurd (R.miss i (omega tests) (held-kind i h ∙ index-hit d l h)))
      (λ t. omega (tests, low))

  holds_snoc : (d : Kind) → length l < length ks → Holds (set ks (length l) d) (l ++ (d ∷ []))
  holds_snoc d h =
      let e : length (l ++ (d ∷ [])) ≡ length l + 1 = omega (arith, length-append l (d ∷ [])) in
      record {
        begins = ap (λ (n : ℕ). take n (set ks (length l) d)) e
            ∙ take_more_set ks (length l) d h
            ∙ ap (λ (m : List Kind). m ++ (d ∷ [])) H.begins;
      }

pub puts_held : {γ : ℕ → Bool} {w : ℕ} {ks ks' l : List Kind} {n number count : ℕ} → Written γ w l → Holds ks l → (d : Kind)
    → n ≡ length l → n < length ks → Puts ks n d ks' number count → Held ks' (put d l) number count
puts_held {ks = ks} {ks' = ks'} {l = l} {n = n} {number = number} {count = count} W H d e h P =
    let q = found-index H d e P.found in
    by_bool (ltb (index d l) (length l))
    (λ t. let i : index d l < length l = omega tests in
    let r : ltb number n ≡ true = lt-ltb number n (omega (arith, q, e, i)) in
    subst (λ (p : Placed). Held ks' p number count) (sym (put-old W d i)) (record {
      number_is = q;
      count-is = P.counted ∙ rw r e;
      holds = subst (λ (v : List Kind). Holds v l) (sym (P.kinds ∙ rw r)) H;
    }))
    (λ t. let i : index d l ≡ length l = omega (tests, index-le d l) in
    let r : ltb number n ≡ false = le-ltb number n (omega (arith, q, e, i)) in
    subst (λ (p : Placed). Held ks' p number count) (sym (put-new W d i)) (record {
      number_is = q ∙ i;
      count-is = P.counted ∙ rw r (omega (arith, e, length_snoc W d));
      holds = subst (λ (v : List Kind). Holds v (l ++ (d ∷ []))) (sym (P.kinds ∙ rw r (ap (λ (m : ℕ). set ks m d) e)))
          (holds_snoc H d (omega (arith, e, h)));
    }))

-- ---- frames that are not placed

unplaced-past : (ns : List (Option ℕ)) (k : ℕ) (v : Option ℕ) (n : ℕ) → n ≤ k → unplaced (set ns k v) n ≡ unplaced ns n
unfolding unplaced
unplaced-past ns k v zero h = refl
unplaced-past ns k v (suc n) h = rw (get_or-set_other ns k n v None (λ e. omega (arith, e)), unplaced-past ns k v n (omega arith))

pub unplaced-set : (ns : List (Option ℕ)) (k m n : ℕ) → k < n → k < length ns → told ns k ≡ None → suc (unplaced (set ns k (Some m)) n) ≡ unplaced ns n
unfolding unplaced
unplaced-set ns k m zero h i e = absurd (omega arith)
unplaced-set ns k m (suc n) h i e = by_bool (eqb k n)
    (λ t. let q : n ≡ k = omega tests in
    rw (q, get_or-set_same ns k (Some m) None i, e, unplaced-past ns k (Some m) k (omega arith)) (omega arith))
    (λ t. let r = unplaced-set ns k m n (omega tests) i e in
    rw (get_or-set_other ns k n (Some m) None (λ d. omega (tests, d)), sym r) (omega arith))

-- ---- the stack

pub stack_under : (st : List ℕ) (e v d : ℕ) → d ≤ e → stack_of (set st e v) d ≡ stack_of st d
unfolding stack_of
stack_under st e v zero h = refl
stack_under st e v (suc d) h = rw (get_or-set_other st e d v 0 (λ q. omega (arith, q)), stack_under st e v d (omega arith))

pub stack_push : (st : List ℕ) (v d : ℕ) → d < length st → stack_of (set st d v) (d + 1) ≡ v ∷ stack_of st d
unfolding stack_of
stack_push st v d h = rw (add-one d, get_or-set_same st d v 0 h, stack_under st d v d (omega arith))

stack_length : (st : List ℕ) (d : ℕ) → length (stack_of st d) ≡ d
unfolding stack_of
stack_length st zero = refl
stack_length st (suc d) = ap suc (stack_length st d)

pub stack_top : (st : List ℕ) {d e : ℕ} → e ≡ suc d → stack_of st e ≡ get_or st d 0 ∷ stack_of st d
unfolding stack_of
stack_top st q = rw q

waits-lower : (ns : List (Option ℕ)) (n low least : ℕ) (q : List ℕ) → least ≤ low → Waits ns n low q → Waits ns n least q
waits-lower ns n low least [] h w = omega arith
waits-lower ns n low least (k ∷ q) h w = (omega (arith, w.0), w.1, w.2)

waits-few : (ns : List (Option ℕ)) (n low : ℕ) (q : List ℕ) → Waits ns n low q → low + length q ≤ n
waits-few ns n low [] w = omega arith
waits-few ns n low (k ∷ q) w = let h = waits-few ns n (suc k) q w.2 in omega (arith, h, w.0)

waits-set : (ns : List (Option ℕ)) (n k : ℕ) (v : Option ℕ) (low : ℕ) (q : List ℕ) → k < low → Waits ns n low q → Waits (set ns k v) n low q
waits-set ns n k v low [] h w = w
waits-set ns n k v low (j ∷ q) h w =
    (w.0, get_or-set_other ns k j v None (λ e. omega (arith, e, w.0)) ∙ w.1, waits-set ns n k v (suc j) q (omega (arith, w.0)) w.2)

-- ---- a frame and those that it names

first-reading : (ns : List (Option ℕ)) (g : Bool) (x : ℕ) → first_unplaced ns (reading g x) ≡ None
unfolding first_unplaced
first-reading ns true x = refl
first-reading ns false x = refl

first-gate : (ns : List (Option ℕ)) (d : Bool) (a b : ℕ) → first_unplaced ns (gate_of d a b) ≡ unplaced_or ns a (unplaced_or ns b None)
unfolding first_unplaced
first-gate ns true a b = refl
first-gate ns false a b = refl

first-quant : (ns : List (Option ℕ)) (d : Bool) (b c a : ℕ) → first_unplaced ns (quant_of d b c a) ≡ unplaced_or ns a None
unfolding first_unplaced
first-quant ns true b c a = refl
first-quant ns false b c a = refl

renamed-reading : (ns : List (Option ℕ)) (g : Bool) (x : ℕ) → renamed ns (reading g x) ≡ reading g x
unfolding renamed
renamed-reading ns true x = refl
renamed-reading ns false x = refl

renamed-gate : (ns : List (Option ℕ)) (d : Bool) (a b : ℕ) → renamed ns (gate_of d a b) ≡ gate_of d (number_at ns a) (number_at ns b)
unfolding renamed
renamed-gate ns true a b = refl
renamed-gate ns false a b = refl

renamed-quant : (ns : List (Option ℕ)) (d : Bool) (b c a : ℕ) → renamed ns (quant_of d b c a) ≡ quant_of d b c (number_at ns a)
unfolding renamed
renamed-quant ns true b c a = refl
renamed-quant ns false b c a = refl

-- frame a has a number
record Placed_at (ns : List (Option ℕ)) (a : ℕ) : Type 0 where
  number : ℕ
  is : told ns a ≡ Some number

by_option : {A : Type 0} (o : Option ℕ) → (o ≡ None → A) → ((m : ℕ) → o ≡ Some m → A) → A
by_option None f g = f refl
by_option (Some m) f g = g m refl

-- the frame a is the one, or it has a number
or_cases : {A : Type 0} (ns : List (Option ℕ)) (a : ℕ) (next : Option ℕ) → (told ns a ≡ None → unplaced_or ns a next ≡ Some a → A) → (Placed_at ns a → unplaced_or ns a next ≡ next → A) → A
or_cases ns a next f g = by_option (told ns a)
    (λ e. f e (rw e))
    (λ m e. g (record { number = m; is = e }) (rw e))

-- the one of two numbers that are told
some_same : {a b : ℕ} → Some a ≡ Some b → a ≡ b
some_same e = cc

some_none : {A : Type 0} {a : ℕ} → Some a ≡ None → A
some_none e = cc

module _ (s : Sheet) (K : Keeps s) (ns : List (Option ℕ)) (l : List Kind) (W : Written (gauge_of s) (variables s) l)
    (numbered : (k : ℕ) → k < frames s → Numbered s l k (told ns k)) where
  abbrev γ : ℕ → Bool
  γ = gauge_of s

  -- where a frame that has a number is placed: there, and nothing is added, and so behind other frames
  stands : (a : ℕ) → a < frames s → Placed_at ns a → (number_at ns a < length l) × (formula_at l (number_at ns a) ≡ formula s a)
  stands a h u =
      let p = subst (Numbered s l a) u.is (numbered a h) in
      let e : number_at ns a ≡ u.number = ap (number) u.is in
      rw e p

  stays : (a : ℕ) → a < frames s → Placed_at ns a → place γ (formula s a) l ≡ record { frames = l; number = number_at ns a }
  stays a h u = let p = stands a h u in place-stays W (number_at ns a) (formula s a) p.0 p.1

  placing : (b : ℕ) → b < frames s → Places γ (variables s) (formula s b) l (place γ (formula s b) l)
  placing b h = place-places γ (variables s) (formula s b) l (sheet-below s K b h) W

  stays-behind : (a b : ℕ) → a < frames s → b < frames s → Placed_at ns a
      → place γ (formula s a) (place γ (formula s b) l).frames ≡ record { frames = (place γ (formula s b) l).frames; number = number_at ns a }
  stays-behind a b h i u =
      let p = stands a h u in
      let P = placing b i in
      place-stays P.written (number_at ns a) (formula s a) (omega (arith, p.0, ap length P.extends ∙ length-append l P.more))
      (ap (λ (m : List Kind). formula_at m (number_at ns a)) P.extends ∙ formula-more W P.more (number_at ns a) p.0 ∙ p.1)

  again : (b : ℕ) → b < frames s → place γ (formula s b) (place γ (formula s b) l).frames ≡ place γ (formula s b) l
  again b h = place-again γ (variables s) (formula s b) l (sheet-below s K b h) W

  -- next is named by the frame own, waits, and may be placed before it
  pub record Child (own next : ℕ) : Type 0 where
    pub earlier : next < own
    pub waiting : told ns next ≡ None
    pub before : place γ (formula s own) (place γ (formula s next) l).frames ≡ place γ (formula s own) l

  module _ (own : ℕ) (inside : own < frames s) where
    at : {f : Formula} (m : List Kind) → formula s own ≡ f → place γ (formula s own) m ≡ place γ f m
    at m q = ap (λ (f : Formula). place γ f m) q

    child_as : (next : ℕ) → Formed γ (variables s) (kind s) own → first_unplaced ns (kind s own) ≡ Some next → Child own next
    unfolding first_unplaced place
    child_as next (nothing e q) n = some_none (sym n ∙ ap (first_unplaced ns) e)
    child_as next (reads x i e q) n = some_none (sym n ∙ ap (first_unplaced ns) e ∙ first-reading ns (γ x) x)
    child_as next (denies a i e q) n =
        let m = sym n ∙ ap (first_unplaced ns) e in
        or_cases ns a None
        (λ w t. rw (some_same (m ∙ t)) (record {
          earlier = i;
          waiting = w;
          before = at _ q ∙ ap (λ (p : Placed). put (Not p.number) p.frames) (again a (omega arith)) ∙ sym (at l q);
        }))
        (λ w t. some_none (m ∙ t))
    child_as next (joins d a b i j e q) n =
        let m = sym n ∙ ap (first_unplaced ns) e ∙ first-gate ns d a b in
        or_cases ns a (unplaced_or ns b None)
        (λ w t. rw (some_same (m ∙ t)) (record {
          earlier = i;
          waiting = w;
          before = at _ q
              ∙ ap (λ (p : Placed). let r = place γ (formula s b) p.frames in put (gate_of d p.number r.number) r.frames) (again a (omega arith))
              ∙ sym (at l q);
        }))
        (λ w t. or_cases ns b None
        (λ v r. rw (some_same (m ∙ t ∙ r)) (record {
          earlier = j;
          waiting = v;
          before = at _ q
              ∙ ap (λ (p : Placed). let r = place γ (formula s b) p.frames in put (gate_of d p.number r.number) r.frames) (stays-behind a b (omega arith) (omega arith) w)
              ∙ ap (λ (r : Placed). put (gate_of d (number_at ns a) r.number) r.frames) (again b (omega arith))
              ∙ sym (at l q
              ∙ ap (λ (p : Placed). let r = place γ (formula s b) p.frames in put (gate_of d p.number r.number) r.frames) (stays a (omega arith) w));
        }))
        (λ v r. some_none (m ∙ t ∙ r)))
    child_as next (binds d b c a i k h e q) n =
        let m = sym n ∙ ap (first_unplaced ns) e ∙ first-quant ns d b c a in
        or_cases ns a None
        (λ w t. rw (some_same (m ∙ t)) (record {
          earlier = i;
          waiting = w;
          before = at _ q ∙ ap (λ (p : Placed). put (quant_of d b c p.number) p.frames) (again a (omega arith)) ∙ sym (at l q);
        }))
        (λ w t. some_none (m ∙ t))

    -- where all that it names are placed, it is one frame more
    ready_as : Formed γ (variables s) (kind s) own → first_unplaced ns (kind s own) ≡ None → place γ (formula s own) l ≡ put (renamed ns (kind s own)) l
    unfolding first_unplaced place renamed
    ready_as (nothing e q) n = at l q ∙ ap (λ (d : Kind). put (renamed ns d) l) (sym e)
    ready_as (reads x i e q) n = at l q ∙ ap (λ (d : Kind). put d l) (sym (ap (renamed ns) e ∙ renamed-reading ns (γ x) x))
    ready_as (denies a i e q) n =
        let m = sym n ∙ ap (first_unplaced ns) e in
        or_cases ns a None
        (λ w t. some_none (sym (m ∙ t)))
        (λ w t. at l q ∙ ap (λ (p : Placed). put (Not p.number) p.frames) (stays a (omega arith) w) ∙ ap (λ (d : Kind). put (renamed ns d) l) (sym e))
    ready_as (joins d a b i j e q) n =
        let m = sym n ∙ ap (first_unplaced ns) e ∙ first-gate ns d a b in
        or_cases ns a (unplaced_or ns b None)
        (λ w t. some_none (sym (m ∙ t)))
        (λ w t. or_cases ns b None
        (λ v r. some_none (sym (m ∙ t ∙ r)))
        (λ v r. at l q
        ∙ ap (λ (p : Placed). let r = place γ (formula s b) p.frames in put (gate_of d p.number r.number) r.frames) (stays a (omega arith) w)
        ∙ ap (λ (r : Placed). put (gate_of d (number_at ns a) r.number) r.frames) (stays b (omega arith) v)
        ∙ ap (λ (c : Kind). put c l) (sym (ap (renamed ns) e ∙ renamed-gate ns d a b))))
    ready_as (binds d b c a i k h e q) n =
        let m = sym n ∙ ap (first_unplaced ns) e ∙ first-quant ns d b c a in
        or_cases ns a None
        (λ w t. some_none (sym (m ∙ t)))
        (λ w t. at l q ∙ ap (λ (p : Placed). put (quant_of d b c p.number) p.frames) (stays a (omega arith) w)
        ∙ ap (λ (c : Kind). put c l) (sym (ap (renamed ns) e ∙ renamed-quant ns d b c a)))

    pub child : {next : ℕ} → first_unplaced ns (kind s own) ≡ Some next → Child own next
    child {next} n = child_as next (formed (sheet_says s K) own inside) n

    pub ready : first_unplaced ns (kind s own) ≡ None → place γ (formula s own) l ≡ put (renamed ns (kind s own)) l
    ready n = ready_as (formed (sheet_says s K) own inside) n

-- ---- a turn

few-frames : {s : Sheet} → Keeps s → frames s ≤ 3000
few-frames {s} K = omega (arith, K.most, most-place s.form)

module _ {s : Sheet} {ks : List Kind} {ns : List (Option ℕ)} {st : List ℕ} {count depth : ℕ} (T : Visiting s ks ns st count depth) {d : ℕ} (deep : depth ≡ suc d) where
  -- the frame on top
  abbrev own : ℕ
  own = get_or st d 0

  waits_top : Waits ns (frames s) 0 (own ∷ stack_of st d)
  waits_top = subst (Waits ns (frames s) 0) (stack_top st deep) T.waits

  pub top_inside : own < frames s
  top_inside = let h = waits-few ns (frames s) (suc own) (stack_of st d) waits_top.2 in omega (arith, h)

  pub top_room : d < length st
  top_room = let h = waits-few ns (frames s) 0 (own ∷ stack_of st d) waits_top in omega (arith, h, stack_length st d, T.stack_room)

  leads_top : finish s (own ∷ stack_of st d) T.list ≡ normal_frames s
  leads_top = ap (λ (q : List ℕ). finish s q T.list) (sym (stack_top st deep)) ∙ T.leads

  -- a frame that it names goes on top
  module _ {next : ℕ} (first : first_unplaced ns (kind s own) ≡ Some next) where
    below : Child s T.keeps ns T.list T.written T.numbered own next
    below = child s T.keeps ns T.list T.written T.numbered own top_inside first

    waits-next : Waits ns (frames s) 0 (next ∷ own ∷ stack_of st d)
    waits-next = (omega arith, below.waiting, (below.earlier, waits_top.1, waits_top.2))

    push_few : depth + next < frames s
    push_few = let h = waits-few ns (frames s) (suc next) (own ∷ stack_of st d) waits-next.2 in omega (arith, h, stack_length st d, deep)

    pub push_room : depth < length st
    push_room = omega (arith, push_few, T.stack_room)

    pushed : stack_of (set st depth next) (depth + 1) ≡ next ∷ own ∷ stack_of st d
    pushed = stack_push st next depth push_room ∙ ap (λ (q : List ℕ). next ∷ q) (stack_top st deep)

    pub push_visiting : Visiting s ks ns (set st depth next) count (depth + 1)
    unfolding finish
    push_visiting = record {
      keeps = T.keeps;
      kinds-room = T.kinds-room;
      numbers-room = T.numbers-room;
      stack_room = omega (arith, T.stack_room, length-set st depth next);
      list = T.list;
      counted = T.counted;
      holds = T.holds;
      written = T.written;
      numbered = T.numbered;
      few = T.few;
      waits = subst (Waits ns (frames s) 0) (sym pushed) waits-next;
      leads = ap (λ (q : List ℕ). finish s q T.list) pushed
          ∙ ap (λ (p : Placed). finish s (stack_of st d) p.frames) below.before
          ∙ leads_top;
    }

    pub push_left : left ns (frames s) (depth + 1) < left ns (frames s) depth
    push_left = omega (arith, push_few, few-frames T.keeps)

  -- or it is placed itself
  module _ (first : first_unplaced ns (kind s own) ≡ None) where
    abbrev frame : Kind
    frame = renamed ns (kind s own)

    abbrev placed : Placed
    placed = put frame T.list

    is-placed : place (gauge_of s) (formula s own) T.list ≡ placed
    is-placed = ready s T.keeps ns T.list T.written T.numbered own top_inside first

    places : Places (gauge_of s) (variables s) (formula s own) T.list placed
    places = subst (Places (gauge_of s) (variables s) (formula s own) T.list) is-placed
        (place-places (gauge_of s) (variables s) (formula s own) T.list (sheet-below s T.keeps own top_inside) T.written)

    -- there is room for one frame more
    one_less : (m : ℕ) → suc (unplaced (set ns own (Some m)) (frames s)) ≡ unplaced ns (frames s)
    one_less m = unplaced-set ns own m (frames s) top_inside (omega (arith, top_inside, T.numbers-room)) waits_top.1

    more : length T.list < frames s
    more = omega (arith, T.few, one_less 0)

    pub put-room : count < length ks
    put-room = omega (arith, more, T.counted, T.kinds-room)

    pub put-behind : Behind ks count
    put-behind = held-behind T.holds T.written T.counted

    pub put-first : first_place frame ≤ count
    unfolding put
    put-first =
        let p = says_behind (places.written.says placed.number places.inside) in
        let q = ap first_place (put-at T.written frame) in
        omega (arith, p, q, index-le frame T.list, T.counted)

    placed-few : length placed.frames ≤ frames s
    placed-few = omega (arith, more, put_one T.written frame)

    module _ {ks' : List Kind} {number count' : ℕ} (P : Puts ks count frame ks' number count') (same : length ks' ≡ length ks) where
      held : Held ks' placed number count'
      held = puts_held T.written T.holds frame T.counted put-room P

      pub number-few : number < 3000
      number-few = omega (arith, held.number_is, places.inside, placed-few, few-frames T.keeps)

      more_numbered : (k : ℕ) (o : Option ℕ) → Numbered s T.list k o → Numbered s placed.frames k o
      more_numbered k None p = p
      more_numbered k (Some m) p = (
        omega (arith, p.0, ap length places.extends ∙ length-append T.list places.more),
        ap (λ (l : List Kind). formula_at l m) places.extends ∙ formula-more T.written places.more m p.0 ∙ p.1,
      )

      numbered_then : (k : ℕ) → k < frames s → Numbered s placed.frames k (told (set ns own (Some number)) k)
      numbered_then k h = by_bool (eqb k own)
          (λ t. let e : k ≡ own = omega tests in
          rw (e, get_or-set_same ns own (Some number) None (omega (arith, top_inside, T.numbers-room)), held.number_is) (places.inside, places.means))
          (λ t. rw (get_or-set_other ns own k (Some number) None (λ e. omega (tests, e))) (more_numbered k (told ns k) (T.numbered k h)))

      pub put_visiting : Visiting s ks' (set ns own (Some number)) st count' d
      unfolding finish
      put_visiting = record {
        keeps = T.keeps;
        kinds-room = omega (arith, same, T.kinds-room);
        numbers-room = omega (arith, T.numbers-room, length-set ns own (Some number));
        stack_room = T.stack_room;
        list = placed.frames;
        counted = held.count-is;
        holds = held.holds;
        written = places.written;
        numbered = numbered_then;
        few = omega (arith, T.few, one_less number, put_one T.written frame);
        waits = waits-lower _ _ _ 0 (stack_of st d) (omega arith) (waits-set ns (frames s) own (Some number) (suc own) (stack_of st d) (omega arith) waits_top.2);
        leads = ap (λ (p : Placed). finish s (stack_of st d) p.frames) (sym is-placed) ∙ leads_top;
      }

      pub put-left : left (set ns own (Some number)) (frames s) d < left ns (frames s) depth
      put-left = omega (arith, one_less number, deep)

-- ---- as the code has it: the frame on top, what it says, and the frame that comes next, each by an equation

module _ {s : Sheet} {ks : List Kind} {ns : List (Option ℕ)} {st : List ℕ} {count depth : ℕ} (T : Visiting s ks ns st count depth) (deep : 0 < depth) where
  one_more : depth ≡ suc (depth - 1)
  one_more = omega arith

  pub stack-fits : depth ≤ length st
  stack-fits = let h = top_room T one_more in omega (arith, h)

  module _ {own : ℕ} {κ : Kind} (top : own ≡ get_or st (depth - 1) 0) (said : κ ≡ kind s own) where
    own-inside : own < frames s
    own-inside = subst (λ (o : ℕ). o < frames s) (sym top) (top_inside T one_more)

    pub turn_inside : own < length ns
    turn_inside = omega (arith, own-inside, T.numbers-room)

    pub turn-fit : Fit 64 (length ns) κ
    turn-fit = fit-more (variables s) 64 own (length ns) κ (few-variables s.form) (omega (arith, turn_inside))
        (subst (Fit (variables s) own) (sym said) ((kept s T.keeps).ordered.fit own))

    renames-top : (r : Result Kind ℕ) → Renames ns κ r → Renames ns (kind s (get_or st (depth - 1) 0)) r
    renames-top r h = subst (λ (d : Kind). Renames ns d r) (said ∙ ap (kind s) top) h

    -- the next frame goes on top
    module _ {next : ℕ} (first : Renames ns κ (Err next)) where
      pub next-room : depth < length st
      next-room = push_room T one_more (renames-top (Err next) first)

      pub turn_push : {st' : List ℕ} {depth' : ℕ} → st' ≡ set st depth next → depth' ≡ depth + 1
          → Visiting s ks ns st' count depth' × (left ns (frames s) depth' < left ns (frames s) depth)
      turn_push e d = rw (e, d) (push_visiting T one_more (renames-top (Err next) first), push_left T one_more (renames-top (Err next) first))

    -- or this one is placed
    module _ {frame : Kind} (mine : Renames ns κ (Ok frame)) where
      mine_by : first_unplaced ns (kind s (get_or st (depth - 1) 0)) ≡ None
      mine_by = (renames-top (Ok frame) mine).0

      pub turn-room : count < length ks
      turn-room = put-room T one_more mine_by

      pub turn-behind : Behind ks count
      turn-behind = put-behind T one_more mine_by

      pub turn-first : first_place frame ≤ count
      turn-first = rw (renames-top (Ok frame) mine).1 (put-first T one_more mine_by)

      module _ {ks' : List Kind} {number count' : ℕ} (P : Puts ks count frame ks' number count') (same : length ks' ≡ length ks) where
        puts_by : Puts ks count (renamed ns (kind s (get_or st (depth - 1) 0))) ks' number count'
        puts_by = subst (λ (d : Kind). Puts ks count d ks' number count') (renames-top (Ok frame) mine).1 P

        pub turn-number : number < 3000
        turn-number = number-few T one_more mine_by puts_by same

        pub turn-put : {ns' : List (Option ℕ)} {st' : List ℕ} {depth' : ℕ} → ns' ≡ set ns own (Some number) → st' ≡ st → depth' ≡ depth - 1
            → Visiting s ks' ns' st' count' depth' × (left ns' (frames s) depth' < left ns (frames s) depth)
        turn-put e f d = rw (e, f, d, top) (put_visiting T one_more mine_by puts_by same, put-left T one_more mine_by puts_by same)

-- ---- the first turn and the last

pub visited : {s : Sheet} {ks : List Kind} {ns : List (Option ℕ)} {st : List ℕ} {count depth : ℕ} → Visiting s ks ns st count depth → depth ≡ 0 → Visited s ks count
unfolding finish stack_of
visited {s} {ks} {ns} {st} {count} T e =
    let q : T.list ≡ normal_frames s = ap (λ (d : ℕ). finish s (stack_of st d) T.list) (sym e) ∙ T.leads in
    record { counted = T.counted ∙ ap length q; holds = subst (Holds ks) q T.holds }

unplaced-le : (ns : List (Option ℕ)) (n : ℕ) → unplaced ns n ≤ n
unfolding unplaced
unplaced-le ns zero = omega arith
unplaced-le ns (suc n) = by_option (told ns n)
    (λ e. rw e (omega (arith, unplaced-le ns n)))
    (λ m e. rw e (omega (arith, unplaced-le ns n)))

-- only the last frame waits
pub begins : {s : Sheet} {ks : List Kind} {ns : List (Option ℕ)} {v count depth : ℕ} {st' : List ℕ} (st : List ℕ) → v ≡ last s → st' ≡ set st 0 v → count ≡ 0 → depth ≡ 1
    → Keeps s → frames s ≤ length ks → frames s ≤ length ns → frames s ≤ length st
    → ((k : ℕ) → k < frames s → told ns k ≡ None) → Visiting s ks ns st' count depth
unfolding finish stack_of normal_frames
begins {s} {ks} {ns} {v} {count} {depth} {st'} st e q c d K w n t u =
    let top : get_or st' 0 0 ≡ last s = ap (λ (l : List ℕ). get_or l 0 0) q ∙ get_or-set_same st 0 v 0 (omega (arith, t, K.least)) ∙ e in
    rw (c, d) (record {
      keeps = K;
      kinds-room = w;
      numbers-room = n;
      stack_room = omega (arith, t, ap length q ∙ length-set st 0 v);
      list = [];
      counted = refl;
      holds = record { begins = refl };
      written = none_written (gauge_of s) (variables s);
      numbered = λ k h. rw (u k h) tt;
      few = omega (arith, unplaced-le ns (frames s));
      waits = rw top (omega arith, u (last s) (last_in s K), omega (arith, K.least));
      leads = rw top refl;
    })
