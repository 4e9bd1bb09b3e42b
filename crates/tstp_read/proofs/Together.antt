-- The answer of a part, from what its tokens are read as.
use Rattle.std.proofs.Common.{◌≡◌, ℕ, ◌+◌, ◌<◌, ◌^◌, List, length, refl, sym, ◌∙◌, ap, subst, arith}
use Rattle.std.specs.Prelude.{Result, Ok, Err, MatchResult}
use Rattle.tstp_read.specs.declared.answer.UsedFault.{UsedFault}
use Rattle.tstp_read.specs.declared.answer.UsedFault.TheVariants as fault
use Rattle.tstp_read.specs.declared.tokens.Token.{Token}
use Rattle.tstp_read.specs.declared.statements.Entry.{Entry}
use Rattle.tstp_read.specs.declared.tokens.CutFault.{CutFault}
use Rattle.tstp_read.specs.declared.tokens.CutFault.TheVariants as bad
use Rattle.tstp_read.specs.declared.statements.ReadFault.{ReadFault}
use Rattle.tstp_read.specs.declared.statements.ReadFault.TheVariants as read
use Rattle.tstp_read.specs.inner.Refusals.{cut_fault, FitsCut, read_fault, FitsRead}
use Rattle.tstp_read.specs.inner.Read as places
use Rattle.tstp_read.specs.Tokens as tokens
use Rattle.tstp_read.specs.Tokens.{Cut, Into, cut, tokens_of}
use Rattle.tstp_read.specs.Statements.{Statement}
use Rattle.tstp_read.specs.Reached as reached
use Rattle.tstp_read.specs.inner.Leaves.{HasEntry, RefutesEntry, named, Found, FailsToFind}
use Rattle.tstp_read.specs.inner.Read.{Finishes, Sticks, StopsAt}
use Rattle.tstp_read.specs.Used.{Answer, NoProof, BadText, Leaves, TokensSay, TokensFail, AsFault, BytesSay, BytesFail, CutSays, place_of, faulty, rootless, rooted}
use Rattle.tstp_read.proofs.Walk.{entries}
use Rattle.tstp_read.proofs.Faults as faults
use Rattle.tstp_read.proofs.Bridge as bridge

pub stopped : (from : ℕ) (bytes : List ℕ) (ts : List Token) (at : ℕ) → (i : ℕ) × (place_of (length bytes) ts i ≡ at) × Sticks (tokens_of bytes ts) i → TokensSay from bytes ts (BadText (from + at))
stopped from bytes ts at stop = subst (λ k. TokensSay from bytes ts (BadText (from + k))) stop.1 (faulty (faults.sticks (tokens_of bytes ts) stop.0 stop.2))

-- ---- refusals

pub read_fails : (from : ℕ) (bytes : List ℕ) (ts : List Token) (e : ReadFault) → StopsAt bytes ts e → TokensFail from bytes ts (read_fault from e)
read_fails from bytes ts (read.Stop at) h = stopped from bytes ts at h
read_fails from bytes ts read.NoMemory h = tt

pub read_fits : (from len : ℕ) (e : ReadFault) → from + len < 2 ^ 64 → places.IsPlaced len e → FitsRead from e
read_fits from len (read.Stop at) fits placed = omega arith
read_fits from len read.NoMemory fits placed = tt

pub cut_fits : (from len : ℕ) (e : CutFault) → from + len < 2 ^ 64 → tokens.IsPlaced len e → FitsCut from e
cut_fits from len (bad.BadByte at) fits placed = omega arith
cut_fits from len bad.NoMemory fits placed = tt

pub cut_fails : (from : ℕ) (bytes : List ℕ) (e : CutFault) → tokens.IsRefusedAs bytes e → BytesFail from bytes (cut_fault from e)
cut_fails from bytes (bad.BadByte at) h = subst (λ c. CutSays from bytes c (BadText (from + at))) (sym h) refl
cut_fails from bytes bad.NoMemory h = tt

pub cut_both : {X : Type 0} (from : ℕ) (bytes : List ℕ) (ts : List Token) → cut 0 0 bytes ≡ Into ts → (r : Result X UsedFault) (view : X → List (List ℕ)) →
    MatchResult r (λ names. TokensSay from bytes ts (Leaves (view names))) (λ e. TokensFail from bytes ts e) →
    MatchResult r (λ names. BytesSay from bytes (Leaves (view names))) (λ e. BytesFail from bytes e)
cut_both from bytes ts is (Ok names) view h = subst (λ c. CutSays from bytes c (Leaves (view names))) (sym is) h
cut_both from bytes ts is (Err e) view h = subst (λ c. AsFault (CutSays from bytes c) e) (sym is) h

module _ (from : ℕ) (bytes : List ℕ) (ts : List Token) (es : List Entry) (done : Finishes (tokens_of bytes ts) es) where
  as_list : faults.IsReadAs (tokens_of bytes ts) es
  as_list = faults.finishes (tokens_of bytes ts) es done

  pub found : (names : List (List ℕ)) → Found es names → TokensSay from bytes ts (Leaves names)
  found names f =
      let l = as_list in
      let root = bridge.root_tree l.statements f.root l.is_list.sound (subst (λ xs. bridge.RootEntry xs f.root) l.same f.is_root) in
      rooted l.is_list root.root (bridge.leaves_tree l.statements root.statement names
      (subst (λ e. reached.AreLeaves Entry named HasEntry (entries l.statements) e names) (sym root.is)
      (subst (λ xs. reached.AreLeaves Entry named HasEntry xs f.root names) l.same f.leaves)))

  pub not_found : (e : UsedFault) → FailsToFind es e → TokensFail from bytes ts e
  not_found fault.NoProof none =
      let l = as_list in
      rootless l.is_list (bridge.no_root_tree l.statements l.is_list.sound (subst (λ xs. reached.NoRoot Entry RefutesEntry xs) l.same none))
  not_found fault.NoMemory none = tt
  not_found fault.NoStatus none = absurd none
  not_found (fault.BadText at) none = absurd none

  pub both : {X : Type 0} (r : Result X UsedFault) (view : X → List (List ℕ)) → MatchResult r (λ names. Found es (view names)) (FailsToFind es) →
      MatchResult r (λ names. TokensSay from bytes ts (Leaves (view names))) (λ e. TokensFail from bytes ts e)
  both (Ok names) view h = found (view names) h
  both (Err e) view h = not_found e h
