-- What is known of a file that was fetched.
use Rattle.std.proofs.Common.{ℕ, List, sym, subst}
use Rattle.sledge_engine.specs.declared.fetching.Fetch.{Fetch}
use Rattle.sledge_engine.specs.declared.fetching.Fetch.TheVariants.{Whole, TooLong, Failed}
use Rattle.sledge_engine.specs.declared.opening.Opened.{Opened}
use Rattle.sledge_engine.specs.declared.opening.Opened.TheVariants.{Read, Refused}
use Rattle.sledge_engine.specs.Files.{Outside, Holds, TheoryRefusal, faulty, most_theory_bytes}
use Rattle.sledge_engine.specs.inner.Fetches.{IsFetch, IsOpened, IsShort, IsTheoryOf}

pub is_short : (o : Outside) (name : List ℕ) (limit : ℕ) (f : Fetch) → IsFetch o name limit f → IsShort limit f
is_short o name limit (Whole bytes) h = h.short
is_short o name limit TooLong h = tt
is_short o name limit Failed h = tt

-- what the bytes of a file read as is opened under its name
pub opened_by : (bytes : List ℕ) (o : Outside) (name text : List ℕ) (opened : Opened) → Holds o.files name most_theory_bytes bytes →
    IsTheoryOf bytes text opened → IsOpened o name text opened
opened_by bytes o name text (Read t) held h = (record { bytes = bytes; held = held; reads = h.0 }, h.1)
opened_by bytes o name text (Refused status) held h =
    subst (λ s. TheoryRefusal o name s text) (sym h.3) (subst (TheoryRefusal o name 4) (sym h.4) (faulty bytes h.0 h.1 held h.2))
