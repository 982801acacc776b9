-- Forced variables lose nothing: the search below them, with their reasons, is the search. Assumes nothing.
use Rattle.std.specs.Prelude.{ℕ, ◌+◌, ◌<◌, ◌≡◌, refl, Bool, true, false, not, ◌&&◌, ◌||◌, List, get_or}
use Rattle.std.proofs.Common.{arith, sym, ◌∙◌, ap}
use Rattle.std.proofs.Math.Bool.{and-true, and-false}
use Rattle.std.specs.Int.Bits.{bit_and, bit_or}
use Rattle.std.proofs.lemmas.Nat.{and_comm}
use Rattle.words.proofs.Logic.{by_bool, or_left, or_right, or_cases, and_both, not_flip}
use Rattle.words.specs.Word.{bit}
use Rattle.words.proofs.Bits.{bit-and, bit-or, ext}
use Rattle.words.specs.Mask.{Sub, Apart, without}
use Rattle.words.proofs.Mask.{bit-without, without-sum, without_sub, without-apart, without_mono, sub-bits, bits_sub, bits_apart, apart-bits, apart-sub, apart-sym, or-sub, or_apart, or-sum, sub_trans, sub-or-left}
use Rattle.formula.specs.Assignment.{On}
use Rattle.formula.proofs.Assignment.{by_value}
use Rattle.formula.specs.Formula.{truth, free}
use Rattle.net.specs.Net.{Clear}
use Rattle.net.specs.Layout.{packed, formula_at, val}
use Rattle.judge.specs.Judge.{Judged}
use Rattle.judge.specs.JudgeLaws.{judged-more}
use Rattle.imply.specs.Halves.{apart-inside, bit_plus, or-none, off-sub}
use Rattle.imply.specs.Posed.{Met, Lost, Free, Covers, Posed}
use Rattle.imply.specs.Required.{Forcing}
use Rattle.imply.specs.Gather.{Gathered}

-- X are forced with the values U: `rest` are the loose variables without them, m', w' is the cube with them
module _ {net : List ℕ} {a t loose m w X U rest m' w' : ℕ} {whys : List ℕ}
    (F : Forcing net a t loose m w X U whys) (P : Free loose m w) (er : rest ≡ without loose X) (em : m' ≡ bit_or m X) (ew : w' ≡ bit_or w U) where
  U-loose : Sub U loose
  U-loose = sub_trans F.valued F.loose_only

  w-off : (k : ℕ) → bit loose k ≡ true → bit w k ≡ false
  w-off k e = bits_apart (apart-sym P.clear) k e

  -- w' at X, and off it
  at-forced : (k : ℕ) → bit X k ≡ true → bit w' k ≡ bit U k
  at-forced k e = rw (ew, bit-or w U k, w-off k (bits_sub F.loose_only k e))

  off-forced : (k : ℕ) → bit X k ≡ false → bit w' k ≡ bit w k
  off-forced k e = rw (ew, bit-or w U k) (or-none (bit w k) (bit U k) (off-sub F.valued k e))

  w-sum : w' ≡ w + U
  w-sum = ew ∙ or-sum (apart-sub P.clear U-loose)

  rest-sub : Sub rest loose
  rest-sub = rw er (without_sub loose X)

  bit-rest : (k : ℕ) → bit rest k ≡ bit loose k && not (bit X k)
  bit-rest k = ap (λ (i : ℕ). bit i k) er ∙ bit-without loose X k

  rest-off : (k : ℕ) → bit rest k ≡ false → bit X k ≡ false → bit loose k ≡ false
  rest-off k e n = sym (and-true (bit loose k)) ∙ ap (λ (b : Bool). bit loose k && not b) (sym n) ∙ sym (bit-rest k) ∙ e

  pub forced-free : Free rest m' w'
  forced-free =
      record {
        apart = rw em (or_apart (apart-sub P.apart rest-sub) X-rest);
        clear = rw ew (or_apart (apart-sub P.clear rest-sub) (apart-inside F.valued X-rest));
      }
    where
      X-rest : Apart X rest
      X-rest = rw er (apart-sym (without-apart loose X))

  pub forced_less : 0 < X → rest < loose
  forced_less n = omega (arith, er, without-sum loose X, and_comm loose X, F.loose_only.inside)

  pub forced-judged : {cells : List ℕ} → Judged net m w cells → Judged net m' w' cells
  forced-judged j = judged-more (rw em (sub-or-left m X)) (λ k e. sym (off-forced k (off-sub F.loose_only k (bits_apart P.apart k e)))) j

  -- assigned or loose: the same variables
  pub forced-same : bit_or m' rest ≡ bit_or m loose
  forced-same =
      ext (bit_or m' rest) (bit_or m loose) (λ x.
      bit-or m' rest x ∙ rw (em, bit-or m X x, bit-rest x, bit-or m loose x) (go (bit X x) (bit m x) (bit loose x) (bits_sub F.loose_only x)))
    where
      go : (p q r : Bool) → (p ≡ true → r ≡ true) → (q || p) || (r && not p) ≡ q || r
      go true true r h = refl
      go true false r h = sym (h refl)
      go false true r h = refl
      go false false true h = refl
      go false false false h = refl

  pub forced_covers : Covers net a (bit_or m loose) → Covers net a (bit_or m' rest)
  forced_covers c = rw forced-same c

  pub forced-clear : Clear (packed net) a (bit_or m loose) → Clear (packed net) a (bit_or m' rest)
  forced-clear c = rw forced-same c

  -- a reason of assigned variables holds of every word that differs in loose variables only
  agrees : {r z : ℕ} → Sub r m → Sub z loose → On (bit r) (bit (w + z)) (bit w)
  agrees {r} {z} s i k e =
      bit_plus (apart-sub P.clear i) k ∙ or-none (bit w k) (bit z k) (off-sub i k (bits_apart P.apart k (bits_sub s k e)))

  -- a word with the truth has the forced values
  split : {z : ℕ} → Sub z loose → truth (formula_at net a) (bit (w + z)) ≡ val t → bit_and z X ≡ U
  split {z} i e =
      ext (bit_and z X) U (λ k. bit-and z X k ∙ by_bool (bit X k)
      (λ q. rw q (and-true (bit z k)) ∙ here k q)
      (λ q. rw q (and-false (bit z k)) ∙ sym (off-sub F.valued k q)))
    where
      here : (k : ℕ) → bit X k ≡ true → bit z k ≡ bit U k
      here k q =
          ap (λ (b : Bool). b || bit z k) (sym (w-off k (bits_sub F.loose_only k q)))
          ∙ sym (bit_plus (apart-sub P.clear i) k)
          ∙ (F.each k q).forces (bit (w + z)) (agrees (F.each k q).assigned i) e

  pub forced_met : {free word r : ℕ} → Met (formula_at net a) (val t) free rest w' word r → Met (formula_at net a) (val t) free loose w word r
  forced_met {word = word} h =
      record {
        explains = h.explains;
        chosen = h.chosen + U;
        inside = rw (← or-sum apart_chosen) (or-sub (sub_trans h.inside rest-sub) U-loose);
        is = omega (arith, h.is, w-sum);
        least = λ s z i l. by_value (val t) (truth (formula_at net a) (bit (w + z)))
            (λ e.
            let u : w + z ≡ w' + without z X = omega (arith, w-sum, without-sum z X, split i e) in
            ap (λ (y : ℕ). truth (formula_at net a) (bit y)) u ∙ h.least (sub_trans rest-sub s) (without z X) (rw er (without_mono X i)) (omega (arith, u)))
            (λ e. e);
      }
    where
      apart_chosen : Apart h.chosen U
      apart_chosen = apart-sub (apart-inside h.inside (rw er (without-apart loose X))) F.valued

  -- q has the reasons of the forced variables of r
  pub forced-lost : {r q z : ℕ} → Lost (formula_at net a) (val t) rest w' r
      → ((x : ℕ) → bit r x ≡ true → bit X x ≡ true → Sub (get_or whys x 0) q) → Sub q m → ((y : ℕ) → bit q y ≡ true → free (formula_at net a) y ≡ true)
      → z ≡ bit_or (without r X) q → Lost (formula_at net a) (val t) loose w z
  forced-lost {r} {q} {z} h g s i ez =
      rw ez (record {
        explains = record {
          inside = λ k e. or_cases (bit (without r X) k) (bit q k) (sym (bit-or (without r X) q k) ∙ e) (λ b. h.explains.inside k (kept k b).0) (i k);
          forces = λ σ n. by_value (val t) (truth (formula_at net a) σ)
              (λ e. h.explains.forces σ (λ k b. by_bool (bit X k)
              (λ x.
              (F.each k x).forces σ (λ y c. n y (bit-or (without r X) q y ∙ or_right (bit (without r X) y) (bit q y) (bits_sub (g k b x) y c))) e
              ∙ sym (at-forced k x))
              (λ x.
              n k (bit-or (without r X) q k ∙ or_left (bit (without r X) k) (bit q k) (bit-without r X k ∙ rw (b, x)))
              ∙ sym (off-forced k x))))
              (λ e. e);
        };
        apart = or_apart
            (apart-bits (without r X) loose (λ k e. let b = kept k e in rest-off k (bits_apart h.apart k b.0) b.1))
            (apart-inside s P.apart);
      })
    where
      kept : (k : ℕ) → bit (without r X) k ≡ true → (bit r k ≡ true) × (bit X k ≡ false)
      kept k e = let b = and_both (bit r k) (not (bit X k)) (sym (bit-without r X k) ∙ e) in (b.0, not_flip (bit X k) true b.1)

-- ---- as the code has them

module _ {net : List ℕ} {a t loose m w X U rest m' w' : ℕ} {cells whys : List ℕ}
    (P : Posed net a t loose m w cells) (F : Forcing net a t loose m w X U whys) (er : rest ≡ without loose X) (em : m' ≡ bit_or m X) (ew : w' ≡ bit_or w U) where
  pub posed_forced : Posed net a t rest m' w' cells
  posed_forced =
      record {
        grounded = P.grounded;
        here = P.here;
        target_some = P.target_some;
        target_low = P.target_low;
        free = forced-free F P.free er em ew;
        covers = forced_covers F P.free er em ew P.covers;
        clear = forced-clear F P.free er em ew P.clear;
        judged = forced-judged F P.free er em ew P.judged;
      }

  pub pushed-lost : {r both q s z : ℕ} → Lost (formula_at net a) (val t) rest w' r → both ≡ bit_and r X → Gathered whys both q → s ≡ without r X → z ≡ bit_or s q
      → Lost (formula_at net a) (val t) loose w z
  pushed-lost {r} {both} {q} {s} {z} h eb g es ez =
      forced-lost F P.free er em ew h
      (λ x b c. g.all x (ap (λ (i : ℕ). bit i x) eb ∙ bit-and r X x ∙ rw (b, c)))
      (sub-bits q m (λ y e. let o = g.from y e in bits_sub (F.each o.0 (forced o.0 o.1)).assigned y o.2))
      (λ y e. let o = g.from y e in (F.each o.0 (forced o.0 o.1)).inside y o.2)
      (ez ∙ ap (λ (i : ℕ). bit_or i q) es)
    where
      forced : (x : ℕ) → bit both x ≡ true → bit X x ≡ true
      forced x e = (and_both (bit r x) (bit X x) (sym (bit-and r X x) ∙ ap (λ (i : ℕ). bit i x) (sym eb) ∙ e)).1
