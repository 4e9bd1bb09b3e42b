-- Items of lists by their places.
use Rattle.std.proofs.Common.{◌≡◌, ℕ, zero, suc, ◌<◌, List, [], ◌∷◌, ◌++◌, length, take, slice_get, Some, unwrap_or, refl, sym, ap, arith}
use Rattle.std.specs.Prelude.{Option}
use Rattle.std.specs.FinSet as set
use Rattle.hol_terms.specs.declared.env.Env.{Env}
use Rattle.kernel_rules.specs.declared.sequent.Sequent.{Sequent}
use Rattle.kernel_rules.specs.Derivations.{from_one, from_two, from_three, from_fact}
use Rattle.kernel_rules.specs.Connectives.{verum}
use Rattle.kernel_rules.specs.Rules.{seq, fact_of}
use Rattle.hol_kernel.specs.Logs.{seq_at, fact_at}

get_front : {X : Type 0} (xs more : List X) (i : ℕ) → i < length xs → slice_get (xs ++ more) i ≡ slice_get xs i
get_front [] more i h = absurd (omega arith)
get_front (x ∷ xs) more zero h = refl
get_front (x ∷ xs) more (suc i) h = get_front xs more i (omega arith)

pub get_next : {X : Type 0} (xs : List X) (x : X) (more : List X) → slice_get (xs ++ x ∷ more) (length xs) ≡ Some x
get_next [] x more = refl
get_next (y ∷ xs) x more = get_next xs x more

pub take_front : {X : Type 0} (xs more : List X) → take (length xs) (xs ++ more) ≡ xs
take_front [] more = refl
take_front (x ∷ xs) more = ap (λ l. x ∷ l) (take_front xs more)

get_known : {X : Type 0} (xs : List X) (d : X) (i : ℕ) → i < length xs → slice_get xs i ≡ Some (unwrap_or (slice_get xs i) d)
get_known [] d i h = absurd (omega arith)
get_known (x ∷ xs) d zero h = refl
get_known (x ∷ xs) d (suc i) h = get_known xs d i (omega arith)

-- earlier sequents stay where more come
pub seq_at_front : (seqs more : List Sequent) (i : ℕ) → i < length seqs → seq_at (seqs ++ more) i ≡ seq_at seqs i
unfolding seq_at
seq_at_front seqs more i h = ap (λ o. unwrap_or o (seq set.empty verum)) (get_front seqs more i h)

pub seq_at_next : (seqs : List Sequent) (q : Sequent) → seq_at (seqs ++ q ∷ []) (length seqs) ≡ q
unfolding seq_at
seq_at_next seqs q = ap (λ o. unwrap_or o (seq set.empty verum)) (get_next seqs q [])

pub get_at : (seqs : List Sequent) (i : ℕ) → i < length seqs → slice_get seqs i ≡ Some (seq_at seqs i)
unfolding seq_at
get_at seqs i h = get_known seqs (seq set.empty verum) i h

-- the sequent that is lent
pub seq_at_got : (seqs : List Sequent) (i : ℕ) (q : Sequent) → slice_get seqs i ≡ Some q → q ≡ seq_at seqs i
unfolding seq_at
seq_at_got seqs i q e = sym (ap (λ o. unwrap_or o (seq set.empty verum)) e)

pub fact_got : (env : Env) (n : ℕ) → n < length env.facts → from_fact (slice_get env.facts n) ≡ fact_of (fact_at env n)
unfolding fact_at
fact_got env n h = ap from_fact (get_known env.facts verum n h)

module _ (seqs : List Sequent) where
  pub one_at : (i : ℕ) (f : Sequent → Option Sequent) → i < length seqs → from_one (slice_get seqs i) f ≡ f (seq_at seqs i)
  one_at i f h = ap (λ o. from_one o f) (get_at seqs i h)

  pub two_at : (i j : ℕ) (f : Sequent → Sequent → Option Sequent) → i < length seqs → j < length seqs → from_two (slice_get seqs i) (slice_get seqs j) f ≡ f (seq_at seqs i) (seq_at seqs j)
  two_at i j f hi hj = (λ k. from_two (get_at seqs i hi k) (get_at seqs j hj k) f)

  pub three_at : (i j k : ℕ) (f : Sequent → Sequent → Sequent → Option Sequent) → i < length seqs → j < length seqs → k < length seqs →
      from_three (slice_get seqs i) (slice_get seqs j) (slice_get seqs k) f ≡ f (seq_at seqs i) (seq_at seqs j) (seq_at seqs k)
  three_at i j k f hi hj hk = (λ m. from_three (get_at seqs i hi m) (get_at seqs j hj m) (get_at seqs k hk m) f)
