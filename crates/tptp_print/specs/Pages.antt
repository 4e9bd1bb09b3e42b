-- What is written on a page: its bytes so far, and the types that have numbers so far.
use Rattle.std.specs.Prelude.{ℕ, List, [], ◌∷◌, ◌++◌, decimal}
use Rattle.hol_terms.specs.declared.ty.Ty.{Ty}
use Rattle.tptp_print.specs.declared.page.Page.{Page}
use Rattle.tptp_print.specs.Numbers.{number_in, with_type}

abbrev pub blank : Page
blank = record { bytes = []; types = [] }

-- a word
abbrev pub word : List ℕ → Page → Page
word w page = record { bytes = page.bytes ++ w; types = page.types }

-- the number of a type, which gets the next one where it is written first
abbrev pub type_number : Ty → Page → Page
type_number a page = record { bytes = page.bytes ++ decimal (number_in page.types a); types = with_type page.types a }

-- pieces, one after another
abbrev pub pieces : List (Page → Page) → Page → Page
pieces [] page = page
pieces (p ∷ ps) page = pieces ps (p page)
