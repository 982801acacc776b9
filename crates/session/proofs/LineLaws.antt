-- What a line says and its four bytes. Assumes nothing.
use Rattle.std.specs.Prelude.{ℕ, ◌≡◌, refl, true, false, not, eqb}
use borrow.Author.Tests.{eqb-true}
use Rattle.words.proofs.Logic.{by_bool, or-false}
use Rattle.sheet.specs.Rules.{spare_set}
use Rattle.model.specs.Model.{used, unknown}
use Rattle.session.specs.declared.script.Line.{Line}
use Rattle.session.specs.declared.script.Line.TheVariants.{Enter, TakeBack, Read, Ask, Why}
use Rattle.session.specs.declared.script.LineBytes.{LineBytes}
use Rattle.session.specs.Line.{bytes_of, KindOf}

-- the bytes of a line are known
pub known_bytes : (line : Line) → unknown (bytes_of line).k (bytes_of line).a (bytes_of line).b (bytes_of line).c ≡ false
unfolding unknown used spare_set
known_bytes (Enter variable value desk) = refl
known_bytes TakeBack = refl
known_bytes (Read place) = refl
known_bytes Ask = refl
known_bytes Why = refl

zero_of : (x : ℕ) → not (eqb x 0) ≡ false → x ≡ 0
zero_of x e = by_bool (eqb x 0) (λ t. eqb-true x 0 t) (λ f. let z = rw f at e in cc)

module _ (l : LineBytes) where
  -- bytes with a spare one that is not 0 are not
  pub spare_unknown : (line : Line) → KindOf l line → spare_set (used (bytes_of line).k) l.a l.b l.c ≡ true → unknown l.k l.a l.b l.c ≡ true
  unfolding unknown
  spare_unknown (Enter variable value desk) k e = rw k.0 e
  spare_unknown TakeBack k e = rw k e
  spare_unknown (Read place) k e = rw k.0 e
  spare_unknown Ask k e = rw k e
  spare_unknown Why k e = rw k e

  none_spare : spare_set 0 l.a l.b l.c ≡ false → (l.a ≡ 0) × (l.b ≡ 0) × (l.c ≡ 0)
  unfolding spare_set
  none_spare e =
      let p = or-false _ _ e in
      let q = or-false _ _ p.1 in
      (zero_of l.a p.0, zero_of l.b q.0, zero_of l.c q.1)

  one_spare : spare_set 1 l.a l.b l.c ≡ false → (l.b ≡ 0) × (l.c ≡ 0)
  unfolding spare_set
  one_spare e =
      let q = or-false _ _ e in
      (zero_of l.b q.0, zero_of l.c q.1)

  -- bytes whose spare ones are 0 are those of the line
  pub spared_bytes : (line : Line) → KindOf l line → spare_set (used (bytes_of line).k) l.a l.b l.c ≡ false → l ≡ bytes_of line
  unfolding used
  spared_bytes (Enter variable value desk) k e = rw (k.1, k.2, k.3) (λ j. record { k = k.0 j; a = l.a; b = l.b; c = l.c })
  spared_bytes TakeBack k e = let n = none_spare e in λ j. record { k = k j; a = n.0 j; b = n.1 j; c = n.2 j }
  spared_bytes (Read place) k e = let n = one_spare e in rw k.1 (λ j. record { k = k.0 j; a = l.a; b = n.0 j; c = n.1 j })
  spared_bytes Ask k e = let n = none_spare e in λ j. record { k = k j; a = n.0 j; b = n.1 j; c = n.2 j }
  spared_bytes Why k e = let n = none_spare e in λ j. record { k = k j; a = n.0 j; b = n.1 j; c = n.2 j }
