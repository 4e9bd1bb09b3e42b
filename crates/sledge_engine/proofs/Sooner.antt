-- What is told of a part of a call is told of the whole call.
use Rattle.std.proofs.Common.{ℕ, ◌≡◌, ◌+◌, ◌-◌, ◌^◌, ◌≤◌, Bool, List, min, arith, subst}
use Rattle.std.specs.Prelude.{Option}
use Rattle.race_outside.specs.Causes.{Rose}
use Rattle.race_outside.specs.Shelves.{Files}
use Rattle.theory_reader.specs.declared.theory.Theory.{Theory}
use Rattle.sledge_engine.specs.inner.Fetches.{outside}
use Rattle.sledge_engine.specs.Files.{FileRefusal, no_file, long_file}
use Rattle.sledge_engine.specs.Check.{ProofFileReply, no_proof, proof}

least : (a b k d : ℕ) → a ≤ b → min (b + 1) k ≤ d → min (a + 1) k ≤ d
least a b k d le h = omega (arith, le, h)

module _ (files : Option Files) (sure : Bool) (a b d : ℕ) (le : a ≤ b) where
  rose : Rose b d → Rose a d
  rose h = least a b (2 ^ 64 - 1) d le h

  refusal : (name : List ℕ) (limit status : ℕ) (text : List ℕ) → FileRefusal (outside files sure b d) name limit status text →
      FileRefusal (outside files sure a d) name limit status text
  refusal name limit status text (no_file none) = no_file (record { failed = rose none.failed; absent = none.absent })
  refusal name limit status text (long_file bytes fetched long) = long_file bytes fetched long

  reply : (t : Theory) (name : List ℕ) (status : ℕ) (text : List ℕ) → ProofFileReply (outside files sure b d) t name status text →
      ProofFileReply (outside files sure a d) t name status text
  reply t name status text (no_proof x y h) = no_proof x y (refusal name _ x y h)
  reply t name status text (proof bytes x y held h) = proof bytes x y held h

-- the shelf that has failed by then tells what it told before
pub sooner : (files now_files : Option Files) (sure now_sure : Bool) (a b d : ℕ) (t : Theory) (name : List ℕ) (status : ℕ) (text : List ℕ) →
    now_files ≡ files → now_sure ≡ sure → a ≤ b → ProofFileReply (outside now_files now_sure b d) t name status text →
    ProofFileReply (outside files sure a d) t name status text
sooner files now_files sure now_sure a b d t name status text same_files same_sure le h =
    reply files sure a b d le t name status text
    (subst (λ s. ProofFileReply (outside files s b d) t name status text) same_sure
    (subst (λ f. ProofFileReply (outside f now_sure b d) t name status text) same_files h))
