-- `records::find` meets its contract: the parts that it hands back are those the hit names. Assumes nothing.
use Rattle.std.proofs.Common.{◌≡◌, Some, None, arith}
use Rattle.records.specs.declared.Hit.TheVariants.{Under, Over}
use Rattle.records.specs.Find.{part_of, place_of}
use Rattle.records.proofs.FindLaws.{says_of}
use Rattle.records.proofs.LocateLaws.{part_under, part-over, start-place}
use Rattle.records.proofs.find.Goals as goal

pub part_at-requires : goal.part_at-requires
part_at-requires c =
    let e : c.locate.result ≡ Some (Under c.in-Some-Under.j) = cc in
    let h = says_of _ _ _ _ _ _ _ c.locate.ensures e in
    omega (arith, h.0, h.2.counted)

pub part_at-requires-in-Some-Over : goal.part_at-requires-in-Some-Over
part_at-requires-in-Some-Over c =
    let e : c.locate.result ≡ Some (Over c.in-Some-Over.j) = cc in
    let h = says_of _ _ _ _ _ _ _ c.locate.ensures e in
    omega (arith, h.1, h.3.counted)

pub returns-in-Some-Under : goal.returns-in-Some-Under
returns-in-Some-Under c =
    let e : c.locate.result ≡ Some (Under c.in-Some-Under.j) = cc in
    rw (← c.locate.ensures, e) (part_under c.part_at.ensures)

pub returns-in-Some-Over : goal.returns-in-Some-Over
returns-in-Some-Over c =
    let e : c.locate.result ≡ Some (Over c.in-Some-Over.j) = cc in
    rw (← c.locate.ensures, e) (part-over c.part_at-in-Some-Over.ensures)

pub returns-in-None : goal.returns-in-None
unfolding part_of place_of
returns-in-None c =
    let e : c.locate.result ≡ None = cc in
    record { numbers = simp (← c.locate.ensures, e); place = simp (← c.locate.ensures, e) (start-place _) }
