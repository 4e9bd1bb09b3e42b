-- Generated theories are short, and what they are refused for.
use Rattle.std.proofs.Common.{ℕ, zero, suc, ◌≡◌, ◌∙◌, ◌+◌, ◌-◌, ◌*◌, ◌^◌, ◌<◌, ◌≤◌, min, List, [], ◌∷◌, ◌++◌, length, length-append, arith, codes, decimal, subst, sym}
use Rattle.std.proofs.lemmas.Fmt.{length-decimal-le}
use Rattle.theory_gen.specs.Generated.{constant, fact, generated, goal, lines_below}
use Rattle.theory_reader.specs.declared.theory.Theory.{Theory}
use Rattle.theory_reader.specs.Reading.{Reads}
use Rattle.theory_reader.specs.Seen.{declarations}
use Rattle.sledge_engine.specs.Runs.{GeneratedRefusal, drill_goal, no_goal, too_large}
use Rattle.sledge_engine.specs.inner.Posing.{IsMissing, large, nowhere}

digits : (i : ℕ) → i < 20000 → length (decimal i) ≤ 5
digits i lt = length-decimal-le 5 i (omega arith) (omega (arith, lt)) (omega (arith, lt))

three : (a b c : List ℕ) (n : ℕ) → length a + length b + length c ≤ n → length (a ++ b ++ c) ≤ n
three a b c n le = let ab = length-append a b in let abc = length-append (a ++ b) c in omega (arith, le, ab, abc)

constant_short : (i : ℕ) → i < 20000 → length (constant i) ≤ 64
constant_short i lt = let d = digits i lt in three (codes "const c") (decimal i) (codes " : bool;\n") 64 (omega (arith, d))

fact_short : (i : ℕ) → i < 20000 → length (fact i) ≤ 64
fact_short zero lt = omega arith
fact_short (suc j) lt =
    let d = digits (suc j) lt in
    let e = digits j (omega (arith, lt)) in
    let a = length-append (codes "fact f") (decimal (suc j)) in
    let b = length-append (codes "fact f" ++ decimal (suc j)) (codes " : c") in
    let c = length-append (codes "fact f" ++ decimal (suc j) ++ codes " : c") (decimal j) in
    let f = length-append (codes "fact f" ++ decimal (suc j) ++ codes " : c" ++ decimal j) (codes " ==> c") in
    let g = length-append (codes "fact f" ++ decimal (suc j) ++ codes " : c" ++ decimal j ++ codes " ==> c") (decimal (suc j)) in
    let h = length-append (codes "fact f" ++ decimal (suc j) ++ codes " : c" ++ decimal j ++ codes " ==> c" ++ decimal (suc j)) (codes ";\n") in
    omega (arith, d, e, a, b, c, f, g, h)

lines_short : (line : ℕ → List ℕ) → ((i : ℕ) → i < 20000 → length (line i) ≤ 64) → (n : ℕ) → n ≤ 20000 → length (lines_below line n) ≤ 64 * n
lines_short line each zero le = omega arith
lines_short line each (suc i) le =
    let here = each i (omega (arith, le)) in
    let rest = lines_short line each i (omega (arith, le)) in
    let joined = length-append (lines_below line i) (line i) in
    omega (arith, here, rest, joined)

goal_short : (n : ℕ) → length (goal n) ≤ 64
goal_short n =
    let d = digits (min (n - 1) 12) (omega arith) in
    three (codes "goal g : c") (decimal (min (n - 1) 12)) (codes ";\n") 64 (omega (arith, d))

pub generated_short : (n : ℕ) → n ≤ 20000 → length (generated n) < 2 ^ 32
generated_short n le =
    let a = lines_short constant constant_short n le in
    let b = lines_short fact fact_short n le in
    let c = goal_short n in
    let all = three (lines_below constant n) (lines_below fact n) (goal n) (64 * n + 64 * n + 64) (omega (arith, a, b, c)) in
    omega (arith, all, le)

-- ---- refusals

refusal : (n : ℕ) (t : Theory) (text : List ℕ) → Reads (generated n) (declarations t) → IsMissing t drill_goal text → GeneratedRefusal n 4 text
refusal n t text reads (nowhere none) = no_goal t reads none
refusal n t text reads (large goal place fits) = too_large t goal reads place fits

pub missing_generated : (n : ℕ) (t : Theory) (text : List ℕ) (status : ℕ) → Reads (generated n) (declarations t) → (status ≡ 4) × IsMissing t drill_goal text →
    GeneratedRefusal n status text
missing_generated n t text status reads h = subst (λ s. GeneratedRefusal n s text) (sym h.0) (refusal n t text reads h.1)
