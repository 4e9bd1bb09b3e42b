use Rattle.std.proofs.Common.{◌≡◌, ◌++◌, [], drop, get_or, map, string_bytes}
use Rattle.sledge_engine.specs.Words.{arguments}
use Rattle.sledge_engine.proofs.words.arguments.Given as goal

abbrev pub invariant-loop-place : goal.invariant-loop-place
invariant-loop-place l =
    map (λ w. w.now) l.out.items ++ map (λ place. get_or (map string_bytes l.words) place []) (drop l.place-index l.line.places)
    ≡ arguments (map string_bytes l.words) l.line
