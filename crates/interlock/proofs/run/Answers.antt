-- What is written is printed for the bytes that were read, and what stands behind those makes no difference. Assumes nothing.
use Rattle.std.proofs.Common.{ℕ, ◌≤◌, ◌≡◌, List, Result, Ok, Err, None, Some, OnOk, IfSome, arith, ap, ◌∙◌, subst, length, take}
use Rattle.std.specs.declared.option.Option.{Option}
use Rattle.std.specs.Io.KnownBytes.{Appends}
use Rattle.text.specs.Prefix.{decisive}
use Rattle.response.specs.Printed.{printed}
use Rattle.response.proofs.Lines.{printed-prefix}
use Rattle.interlock.proofs.run.Goals as goal

shown : {E : Type 0} (r : Result (Unit {0}) E) (known old new : Option (List ℕ)) (read lines : List ℕ) (k : ℕ)
    → OnOk r (Appends old new lines) → lines ≡ printed read → IfSome known (λ text. read ≡ take k text) → decisive ≤ k
    → OnOk r (IfSome known (λ text. Appends old new (printed text)))
shown (Ok u) None old new read lines k w p f d = tt
shown (Ok u) (Some text) old new read lines k w p f d = subst (Appends old new) (p ∙ ap printed f ∙ printed-prefix k text d) w
shown (Err e) known old new read lines k w p f d = tt

pub returns : goal.returns
returns g c =
    shown c.write_all.result (g.R.Read.remaining c.args.input.now) (g.W.Write.contents c.args.output.now) (g.W.Write.contents c.write_all.new.self) _ _ (length c.read_full.new.buf)
    c.write_all.ensures.bytes c.respond_whole-written.ensures.part c.in_ok-read.ensures.first (omega (arith, c.text_room-text.ensures, c.read_full.auto.buf))
