-- The machine along a text, field by field: the laws that the code goes by. Assumes nothing.
use Rattle.std.specs.Prelude.{ℕ, ◌≤◌, ◌≡◌, List, length, drop}
use Rattle.dimacs.specs.Token.{tokens, Taken}
use Rattle.dimacs.proofs.TokenLaws.{tokens_none, tokens-taken}
use Rattle.dimacs.specs.Shape.{step, run}
use Rattle.dimacs.specs.declared.token.Token.{Token}
use Rattle.dimacs.specs.declared.shape.State.{State}

-- a field taken
pub run-taken : {text : List ℕ} {at end : ℕ} {t : Token} (s : State) {s' : State} →
    Taken text at t end → s' ≡ step s t → run s' (tokens (drop end text)) ≡ run s (tokens (drop at text))
unfolding run
run-taken s k e = rw (tokens-taken k, e)

-- no field left
pub run_none : (text : List ℕ) (at : ℕ) (s : State) → length text ≤ at → run s (tokens (drop at text)) ≡ s
unfolding run
run_none text at s h = rw (tokens_none text at h)
