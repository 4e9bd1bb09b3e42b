-- The names of facts in two parts.
use Rattle.std.proofs.Common.{◌≡◌, ℕ, zero, suc, ◌-◌, ◌<◌, ◌≤◌, List, [], ◌∷◌, ◌++◌, length, refl, ap, arith}
use Rattle.theory_reader.specs.declared.statement.Fact.{Fact}
use Rattle.theory_reader.specs.Sound.{fact_names}
use Rattle.proof_syntax.specs.Names.{name_in}

pub name_before : (a b : List Fact) (n : ℕ) → n < length a → name_in (fact_names (a ++ b)) n ≡ name_in (fact_names a) n
name_before [] b n h = absurd (omega arith)
name_before (x ∷ a) b zero h = refl
name_before (x ∷ a) b (suc n) h = name_before a b n (omega arith)

pub name_behind : (a b : List Fact) (n : ℕ) → length a ≤ n → name_in (fact_names (a ++ b)) n ≡ name_in (fact_names b) (n - length a)
name_behind [] b n h = let e : n ≡ n - length {A = Fact} [] = omega arith in ap (name_in (fact_names b)) e
name_behind (x ∷ a) b zero h = absurd (omega arith)
name_behind (x ∷ a) b (suc n) h = let e : suc n - length (x ∷ a) ≡ n - length a = omega arith in rw e (name_behind a b n (omega arith))
