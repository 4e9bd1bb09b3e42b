-- A key tells its theory, goal and budget.
use Rattle.std.proofs.Common.{◌≡◌, ℕ, List, [], ◌∷◌, ◌++◌, refl, sym, ap, subst, ◌∙◌, append_assoc}
use Rattle.std.specs.Coded.{coded×, coded_ℕ}
use base.Stored.{Gv, gnil, gnum, gcons}
use Rattle.hol_kernel.specs.declared.proven.Proven.{Proven}
use Rattle.race_core.specs.declared.outcome.Outcome.{Outcome}
use Rattle.theory_reader.specs.declared.theory.Theory.{Theory}
use Rattle.theory_reader.specs.contracts.theory.Theory as the_theory
use Rattle.slot_work.specs.Answers.{serial, key_of, Answers, KeyAnswers, KeyTells}

abbrev Read : Gv → Gv → Type 0
Read a b = (xs ys : List ℕ) → serial a ++ xs ≡ serial b ++ ys → (a ≡ b) × (xs ≡ ys)

node : (a b c d : Gv) → Read a c → Read b d → (xs ys : List ℕ) → (serial a ++ serial b) ++ xs ≡ (serial c ++ serial d) ++ ys → (gcons a b ≡ gcons c d) × (xs ≡ ys)
node a b c d left right xs ys e =
    let moved = simp append_assoc at e in
    let first = left (serial b ++ xs) (serial d ++ ys) moved in
    let second = right xs ys first.1 in
    (cc (first.0, second.0), second.1)

serial_reads : (a b : Gv) → Read a b
serial_reads gnil gnil xs ys e = (refl, cc)
serial_reads gnil (gnum n) xs ys e = cc
serial_reads gnil (gcons c d) xs ys e = cc
serial_reads (gnum m) gnil xs ys e = cc
serial_reads (gnum m) (gnum n) xs ys e = (cc, cc)
serial_reads (gnum m) (gcons c d) xs ys e = cc
serial_reads (gcons a b) gnil xs ys e = cc
serial_reads (gcons a b) (gnum n) xs ys e = cc
serial_reads (gcons a b) (gcons c d) xs ys e = node a b c d (serial_reads a c) (serial_reads b d) xs ys (cc)

abbrev Asked : Type 0
Asked = Theory × (ℕ × ℕ)

one_key : (p q : Asked) → key_of p.0 p.1.0 p.1.1 ≡ key_of q.0 q.1.0 q.1.1 → p ≡ q
unfolding key_of
one_key p q e =
    let code = coded× the_theory.the_row.coded (coded× coded_ℕ coded_ℕ) in
    code.inj p q (serial_reads (code.code p) (code.code q) [] [] (ap (λ l. l ++ []) e)).0

pub key_tells : (t : Theory) (goal budget : ℕ) → KeyTells t goal budget
key_tells t goal budget bytes o a =
    let p : Asked = (t, (goal, budget)) in
    let q : Asked = (a.theory, (a.goal, a.budget)) in
    subst (λ (r : Asked). Answers r.0 r.1.0 r.1.1 bytes o) (sym (one_key p q a.key_is)) a.answers
