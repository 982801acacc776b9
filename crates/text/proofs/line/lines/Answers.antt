use Rattle.std.proofs.Common.{◌≡◌, ◌∙◌, suc, ◌+◌, ◌-◌, drop, arith, sym, ap}
use Rattle.std.proofs.lemmas.List.{take_rest}
use Rattle.text.specs.Line.{Lines, no_lines, line_then, lines}
use Rattle.text.proofs.LineLaws.{lines_none, lines_stop, lines-turn, size-within}
use Rattle.text.proofs.line.lines.Goals as goal

pub returns-in_default : goal.returns-in_default
returns-in_default c =
    let e : c.args.most - c.loop-count.count ≡ suc (c.args.most - (c.loop-count.count + 1)) = omega arith in
    let s : lines c.args.size (c.args.most - c.loop-count.count) c.loop-count.rest.now ≡ no_lines c.loop-count.rest.now =
    rw e (lines_stop c.args.size _ _ (sym c.in_default.ensures.size)) in
    record {
      count = omega (arith, c.loop-count.invariant.0, ap (λ (k : Lines). k.count) s);
      rest = sym (c.loop-count.invariant.1 ∙ ap (λ (k : Lines). k.rest) s);
    }

pub slice_bounds-rest-count : goal.slice_bounds-rest-count
slice_bounds-rest-count c = omega (arith, c.in-Some.ensures.size, size-within c.args.size c.loop-count.rest.now)

pub slice_bounds-rest-start : goal.slice_bounds-rest-start
slice_bounds-rest-start c = omega (arith, c.in-Some.ensures.size, size-within c.args.size c.loop-count.rest.now)

pub loop-count-preserved : goal.loop-count-preserved
loop-count-preserved c =
    let n = c.args.most - (c.loop-count.count + 1) in
    let e : c.args.most - c.loop-count.count ≡ suc n = omega arith in
    let s : lines c.args.size (c.args.most - c.loop-count.count) c.loop-count.rest.now ≡ line_then c.args.size c.loop-count.rest.now (lines c.args.size n (drop c.in-Some.bytes c.loop-count.rest.now)) =
    rw e (lines-turn c.args.size c.loop-count.rest.now _ c.in-Some.ensures.size n c.in-Some.ensures.some) in
    rw take_rest (omega (arith, c.loop-count.invariant.0, ap (λ (k : Lines). k.count) s), c.loop-count.invariant.1 ∙ ap (λ (k : Lines). k.rest) s)

pub returns : goal.returns
returns c =
    let z : c.args.most - c.loop-count.count ≡ 0 = omega arith in
    let s : lines c.args.size (c.args.most - c.loop-count.count) c.loop-count.rest.now ≡ no_lines c.loop-count.rest.now = rw z (lines_none c.args.size _) in
    record {
      count = omega (arith, c.loop-count.invariant.0, ap (λ (k : Lines). k.count) s);
      rest = sym (c.loop-count.invariant.1 ∙ ap (λ (k : Lines). k.rest) s);
    }
