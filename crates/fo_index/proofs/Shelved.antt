-- What stands on shelves stays, and one entry more is found too.
use Rattle.std.proofs.Common.{◌≡◌, ℕ, ◌+◌, ◌<◌, Bool, true, false, List, [], ◌∷◌, ◌++◌, length, get_or, take, refl, sym, ap, ◌∙◌, subst, arith, length-append}
use Rattle.std.specs.Prelude.{Some, Contains, ◌==◌, slice_get}
use Rattle.std.proofs.lemmas.Bool.{eqb-true, eqb-false}
use Rattle.std.proofs.lemmas.Option.{slice_get_within, slice_get-get_or, get_or_from_slice_get}
use Rattle.std.proofs.Math.ListN.{get_or-append}
use Rattle.std.proofs.Math.Seq.{get_or-append_seam, take-append_seam}
use Rattle.fo_index.specs.declared.filed.Filed.{Filed}
use Rattle.fo_index.specs.declared.shelves.Shelves.{Shelves}
use Rattle.fo_index.specs.inner.Numbered.{kept}
use Rattle.fo_index.specs.inner.Shelved.{Grows, AreShelved, IsShelved}

pub grown : (whole begun whole' begun' : Shelves) (front : List ℕ) (k : ℕ) → Grows whole whole' → Grows begun begun' → IsShelved whole begun front k → IsShelved whole' begun' front k
grown whole begun whole' begun' front k more also s = record { ends = more front k s.ends; passes = λ key rest is. also key k (s.passes key rest is) }

pub all-grown : (whole begun whole' begun' : Shelves) (filed : List Filed) → Grows whole whole' → Grows begun begun' → AreShelved whole begun filed → AreShelved whole' begun' filed
all-grown whole begun whole' begun' filed more also all k entry at = grown whole begun whole' begun' entry.front k more also (all k entry at)

one-more-step : (b : Bool) (whole begun : Shelves) (filed : List Filed) (entry : Filed) (k : ℕ) (other : Filed) → (k == length filed) ≡ b → AreShelved whole begun filed → IsShelved whole begun entry.front (length filed)
    → slice_get (filed ++ entry ∷ []) k ≡ Some other → IsShelved whole begun other.front k
one-more-step true whole begun filed entry k other is all new at =
    let e = eqb-true k (length filed) is in
    let found = get_or_from_slice_get (filed ++ entry ∷ []) k other entry at in
    let same : entry ≡ other = sym (ap (λ n. get_or (filed ++ entry ∷ []) n entry) e ∙ get_or-append_seam filed entry [] entry) ∙ found in
    let P : Filed → Type 0 = λ f. IsShelved whole begun f.front (length filed) in
    let Q : ℕ → Type 0 = λ n. IsShelved whole begun other.front n in
    subst Q (sym e) (subst P same new)
one-more-step false whole begun filed entry k other is all new at =
    let no = eqb-false k (length filed) is in
    let lt = slice_get_within (filed ++ entry ∷ []) k other at in
    let within : k < length filed = omega (arith, no, lt, length-append filed (entry ∷ [])) in
    let found = get_or_from_slice_get (filed ++ entry ∷ []) k other other at in
    let here = slice_get-get_or filed k other within ∙ ap Some (sym (get_or-append filed (entry ∷ []) other k within) ∙ found) in
    all k other here

pub one-more : (whole begun : Shelves) (filed : List Filed) (entry : Filed) → AreShelved whole begun filed → IsShelved whole begun entry.front (length filed) → AreShelved whole begun (filed ++ entry ∷ [])
one-more whole begun filed entry all new k other at = one-more-step (k == length filed) whole begun filed entry k other refl all new at

-- the beginnings of a front, up to a length
abbrev pub Passed : Shelves → List ℕ → ℕ → ℕ → Type 0
Passed begun front many place = (j : ℕ) → j < many → Contains (kept begun (take j front)) place

passed-step : (b : Bool) (begun begun' : Shelves) (front : List ℕ) (many place j : ℕ) → (j == many) ≡ b → j < many + 1 → Passed begun front many place → Grows begun begun' → Contains (kept begun' (take many front)) place
    → Contains (kept begun' (take j front)) place
passed-step true begun begun' front many place j is lt before more new = (let P : ℕ → Type 0 = λ n. Contains (kept begun' (take n front)) place in subst P (sym (eqb-true j many is)) new)
passed-step false begun begun' front many place j is lt before more new = (let no = eqb-false j many is in more (take j front) place (before j (omega (arith, lt, no))))

pub passed-more : (begun begun' : Shelves) (front : List ℕ) (many place : ℕ) → Passed begun front many place → Grows begun begun' → Contains (kept begun' (take many front)) place → Passed begun' front (many + 1) place
passed-more begun begun' front many place before more new j lt = passed-step (j == many) begun begun' front many place j refl lt before more new

pub passes : (begun : Shelves) (front : List ℕ) (many place : ℕ) → length front < many → Passed begun front many place → (key rest : List ℕ) → front ≡ key ++ rest → Contains (kept begun key) place
passes begun front many place past passed key rest is =
    let n = ap length is ∙ length-append key rest in
    let cut : take (length key) front ≡ key = ap (take (length key)) is ∙ take-append_seam key rest in
    let P : List ℕ → Type 0 = λ l. Contains (kept begun l) place in
    subst P cut (passed (length key) (omega (arith, n, past)))
