-- Causes of a refusal in their order, and the first of them that holds. Assumes nothing.
use Rattle.std.specs.Prelude.{ℕ, ◌<◌, ◌≡◌, refl, Bool, true, false, cond, ◌||◌, ◌↔◌, List, [], ◌∷◌, ◌++◌}
use Rattle.std.proofs.Common.{arith, sym, ap, ◌∙◌, subst}
use Rattle.words.proofs.Logic.{by_bool, clash, or-false}
use Rattle.sheet.specs.Cause.{Cause, Foremost, Numbered, Refusal, accepted, first, some_holds, told}

-- ---- lists in a row

pub some_append : (cs ds : List Cause) → some_holds (cs ++ ds) ≡ some_holds cs || some_holds ds
unfolding some_holds
some_append [] ds = refl
some_append (c ∷ cs) ds = by_bool c.holds (λ e. rw e) (λ e. rw e (some_append cs ds))

pub first_append : (cs ds : List Cause) → first (cs ++ ds) ≡ cond (some_holds cs) (first cs) (first ds)
unfolding first some_holds
first_append [] ds = refl
first_append (c ∷ cs) ds = by_bool c.holds (λ e. rw e) (λ e. rw e (first_append cs ds))

-- the first of the later list counts where none of the earlier holds
pub first-later : (cs ds : List Cause) → some_holds cs ≡ false → first (cs ++ ds) ≡ first ds
first-later cs ds e = first_append cs ds ∙ rw e

pub first_earlier : (cs ds : List Cause) → some_holds cs ≡ true → first (cs ++ ds) ≡ first cs
first_earlier cs ds e = first_append cs ds ∙ rw e

pub numbered_append : (cs ds : List Cause) → Numbered cs → Numbered ds → Numbered (cs ++ ds)
numbered_append [] ds n m = m
numbered_append (c ∷ cs) ds n m = (n.0, numbered_append cs ds n.1 m)

-- ---- number 0 is told exactly if none holds

pub none_first : (cs : List Cause) → some_holds cs ≡ false → first cs ≡ accepted
unfolding first some_holds
none_first [] e = refl
none_first (c ∷ cs) e = let p = or-false c.holds (some_holds cs) e in rw p.0 (none_first cs p.1)

pub first-none : (cs : List Cause) → Numbered cs → (first cs).number ≡ 0 → some_holds cs ≡ false
unfolding first some_holds
first-none [] n e = refl
first-none (c ∷ cs) n e = by_bool c.holds
    (λ h. let z : c.number ≡ 0 = ap (λ (t : Bool). (cond t (told c) (first cs)).number) (sym h) ∙ e in absurd (omega (arith, n.0)))
    (λ h. rw h (first-none cs n.1 (ap (λ (t : Bool). (cond t (told c) (first cs)).number) (sym h) ∙ e)))

-- ---- number n at place k is told exactly if it is foremost

pub foremost_first : {cs : List Cause} {r : Refusal} → Foremost cs r → first cs ≡ r
unfolding first
foremost_first f =
    ap first f.splits ∙ first-later f.before (f.cause ∷ f.after) f.none ∙ rw f.holds (sym f.is)

pub first_foremost : (cs : List Cause) → some_holds cs ≡ true → Foremost cs (first cs)
unfolding first some_holds
first_foremost [] e = clash false e refl
first_foremost (c ∷ cs) e = by_bool c.holds
    (λ h. record { before = []; cause = c; after = cs; splits = refl; none = refl; holds = h; is = rw h })
    (λ h. later h (first_foremost cs (ap (λ (t : Bool). t || some_holds cs) (sym h) ∙ e)))
  where
    later : c.holds ≡ false → Foremost cs (first cs) → Foremost (c ∷ cs) (cond c.holds (told c) (first cs))
    later h f =
        record {
          before = c ∷ f.before;
          cause = f.cause;
          after = f.after;
          splits = ap (λ (l : List Cause). c ∷ l) f.splits;
          none = rw h f.none;
          holds = f.holds;
          is = rw h f.is;
        }

-- a number above 0 is told with its place exactly if that cause holds and none before it does
pub foremost_exactly : (cs : List Cause) (n k : ℕ) → 0 < n → (first cs ≡ record { number = n; place = k }) ↔ Foremost cs (record { number = n; place = k })
foremost_exactly cs n k h = (λ e. subst (Foremost cs) e (first_foremost cs (holds e)), λ f. foremost_first f)
  where
    holds : first cs ≡ record { number = n; place = k } → some_holds cs ≡ true
    holds e = by_bool (some_holds cs) (λ t. t) (λ t. absurd (omega (arith, ap (λ (r : Refusal). r.number) (sym (none_first cs t) ∙ e))))
