-- The text of the generated theory with a given number of facts.
use Rattle.std.specs.Prelude.{ℕ, zero, suc, ◌-◌, min, List, [], ◌++◌, codes, decimal}

abbrev pub constant : ℕ → List ℕ
constant i = codes "const c" ++ decimal i ++ codes " : bool;\n"

-- the first fact is its constant, and each later one an implication from the constant before
abbrev pub fact : ℕ → List ℕ
fact zero = codes "fact f0 : c0;\n"
fact (suc j) = codes "fact f" ++ decimal (suc j) ++ codes " : c" ++ decimal j ++ codes " ==> c" ++ decimal (suc j) ++ codes ";\n"

-- the goal is the last constant, but none behind the twelfth
abbrev pub goal : ℕ → List ℕ
goal n = codes "goal g : c" ++ decimal (min (n - 1) 12) ++ codes ";\n"

-- these lines for each number below n
abbrev pub lines_below : (ℕ → List ℕ) → ℕ → List ℕ
lines_below line zero = []
lines_below line (suc i) = lines_below line i ++ line i

abbrev pub generated : ℕ → List ℕ
generated n = lines_below constant n ++ lines_below fact n ++ goal n
