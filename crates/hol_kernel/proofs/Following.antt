-- Derivations grow step by step.
use Rattle.std.proofs.Common.{◌≡◌, ℕ, ◌+◌, ◌<◌, List, [], ◌∷◌, ◌++◌, length, take, drop, get_or, Some, None, refl, sym, ◌∙◌, ap, arith, length-append}
use Rattle.std.specs.Prelude.{Option}
use Rattle.std.proofs.lemmas.List.{take_more, drop_more, take-append-drop}
use Rattle.hol_terms.specs.declared.env.Env.{Env}
use Rattle.kernel_rules.specs.declared.step.Step.{Step}
use Rattle.kernel_rules.specs.declared.sequent.Sequent.{Sequent}
use Rattle.kernel_rules.specs.Derivations.{derived, derived_from, onto, sequent}

onto_some : (now : List Sequent → Option (List Sequent)) (done seqs : List Sequent) (o : Option Sequent) → onto now done o ≡ Some seqs →
    (q : Sequent) × ((o ≡ Some q) × (now (done ++ q ∷ []) ≡ Some seqs))
onto_some now done seqs None h = cc
onto_some now done seqs (Some q) h = (q, (refl, h))

-- steps behind those that are derived go on from their sequents
pub derived_more : (env : Env) (xs ys : List Step) (done d : List Sequent) → derived_from env xs done ≡ Some d → derived_from env (xs ++ ys) done ≡ derived_from env ys d
derived_more env [] ys done d h = let same : done ≡ d = cc in ap (derived_from env ys) same
derived_more env (s ∷ xs) ys done d h =
    let first = onto_some (derived_from env xs) done d (sequent env s done) h in
    ap (onto (derived_from env (xs ++ ys)) done) first.1.0 ∙ derived_more env xs ys (done ++ first.0 ∷ []) d first.1.1

length_from : (env : Env) (xs : List Step) (done d : List Sequent) → derived_from env xs done ≡ Some d → length d ≡ length done + length xs
length_from env [] done d h = let same : d ≡ done = cc in let long : length d ≡ length done = ap length same in omega (arith, long)
length_from env (s ∷ xs) done d h =
    let first = onto_some (derived_from env xs) done d (sequent env s done) h in
    let later : length d ≡ length (done ++ first.0 ∷ []) + length xs = length_from env xs (done ++ first.0 ∷ []) d first.1.1 in
    omega (arith, later, length-append done (first.0 ∷ []))

-- there are as many sequents as steps
pub as_many : (env : Env) (steps : List Step) (seqs : List Sequent) → derived env steps ≡ Some seqs → length seqs ≡ length steps
as_many env steps seqs h = let long : length seqs ≡ length {A = Sequent} [] + length steps = length_from env steps [] seqs h in omega (arith, long)

-- one step more, whose sequent is known
pub derived_push : (env : Env) (steps : List Step) (s : Step) (seqs : List Sequent) (q : Sequent) → derived env steps ≡ Some seqs → sequent env s seqs ≡ Some q → derived env (steps ++ s ∷ []) ≡ Some (seqs ++ q ∷ [])
derived_push env steps s seqs q h is = derived_more env steps (s ∷ []) [] seqs h ∙ ap (onto (derived_from env []) seqs) is

pushed : (env : Env) (old new : List Sequent) (o : Option Sequent) → onto (λ x. Some x) old o ≡ Some new → onto (derived_from env []) old o ≡ Some new
pushed env old new None h = cc
pushed env old new (Some q) h = h

missing : (env : Env) (rest : List Step) (old : List Sequent) (o : Option Sequent) → onto (λ x. Some x) old o ≡ None → onto (derived_from env rest) old o ≡ None
missing env rest old None h = refl
missing env rest old (Some q) h = cc

item_first : (steps : List Step) (i : ℕ) (s : Step) → i < length steps → s ≡ get_or steps i s → drop i steps ≡ s ∷ drop (i + 1) steps
item_first steps i s h is = drop_more steps i s h ∙ ap (λ x. x ∷ drop (i + 1) steps) (sym is)

-- one step more of a list has a sequent
pub one_more : (env : Env) (steps : List Step) (i : ℕ) (s : Step) (old new : List Sequent) → i < length steps → s ≡ get_or steps i s →
    derived env (take i steps) ≡ Some old → onto (λ x. Some x) old (sequent env s old) ≡ Some new → derived env (take (i + 1) steps) ≡ Some new
one_more env steps i s old new h is before step =
    ap (λ l. derived env l) (take_more steps i s h ∙ ap (λ x. take i steps ++ x ∷ []) (sym is))
    ∙ derived_more env (take i steps) (s ∷ []) [] old before ∙ pushed env old new (sequent env s old) step

-- a step of a list without a sequent
pub none_more : (env : Env) (steps : List Step) (i : ℕ) (s : Step) (old : List Sequent) → i < length steps → s ≡ get_or steps i s →
    derived env (take i steps) ≡ Some old → onto (λ x. Some x) old (sequent env s old) ≡ None → derived env steps ≡ None
none_more env steps i s old h is before step =
    ap (λ l. derived env l) (sym (take-append-drop i steps) ∙ ap (λ l. take i steps ++ l) (item_first steps i s h is))
    ∙ derived_more env (take i steps) (s ∷ drop (i + 1) steps) [] old before ∙ missing env (drop (i + 1) steps) old (sequent env s old) step
