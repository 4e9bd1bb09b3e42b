-- Pieces of a text, one behind the other.
use Rattle.std.proofs.Common.{◌≡◌, ℕ, ◌≤◌, List, [], ◌∷◌, ◌++◌, drop, length, refl, sym, ap, subst, ◌∙◌, append_assoc, append-nil}
use Rattle.std.proofs.lemmas.List.{map-append, drop_all}
use Rattle.first_fault.proofs.Fronts.{put-append, within-append}
use Rattle.text_kit.specs.Tokens.{Cuts, end}
use Rattle.theory_syntax.specs.declared.tokens.Tok.{Tok}
use Rattle.theory_syntax.specs.declared.tree.Item.{Item}
use Rattle.theory_syntax.specs.Grammar.{Placed, IsTheory, empty, decl}
use Rattle.theory_syntax.specs.Machine.{put}
use Rattle.theory_syntax.specs.Reading as syntax
use Rattle.theory_terms.specs.Answers.{Good, and_then}
use Rattle.theory_terms.proofs.Openings.{opened, good_same}
use Rattle.theory_reader.specs.Toks.{tok_of, toks_of}
use Rattle.theory_reader.specs.Declarations.{Declarations}
use Rattle.theory_reader.specs.Declaring.{declared, declared_all}
use Rattle.theory_reader.specs.Reading.{ReadsItems}
use Rattle.theory_reader.specs.inner.Pieces.{ReadsPiece}

theories_join : {p q : List Placed} {ds es : List Item} → IsTheory p ds → IsTheory q es → IsTheory (p ++ q) (ds ++ es)
theories_join empty e = e
theories_join {q = q} {es = es} (decl {p = p} {q = r} {d = d} {ds = ds} c rest) e =
    subst (λ all. IsTheory all (d ∷ (ds ++ es))) (sym (append_assoc p r q)) (decl c (theories_join rest e))

put_rest : (p : List Placed) (xs : List Tok) → put p xs ≡ put p [] ++ xs
put_rest [] xs = refl
put_rest (x ∷ p) xs = ap (λ ys. x.tok ∷ ys) (put_rest p xs)

reads_join : (m : ℕ) (ts us : List Tok) (ds es : List Item) → syntax.Reads m ts ds → syntax.Reads m us es → syntax.Reads m (ts ++ us) (ds ++ es)
reads_join m ts us ds es a b = record {
  placed = a.placed ++ b.placed;
  derived = theories_join a.derived b.derived;
  within = within-append m a.placed b.placed a.within b.within;
  tokens = (λ i. a.tokens i ++ b.tokens i) ∙ sym (put_rest a.placed (put b.placed [])) ∙ sym (put-append a.placed b.placed []);
}

-- one piece, and the next
pub pieces_join : (text : List ℕ) (from at to : ℕ) (ds es : List Item) → ReadsPiece text from at ds → ReadsPiece text at to es → ReadsPiece text from to (ds ++ es)
pieces_join text from at to ds es a b = record {
  tokens = a.tokens ++ b.tokens;
  cut = λ ts c. subst (Cuts from (drop from text)) (sym (append_assoc a.tokens b.tokens ts)) (a.cut (b.tokens ++ ts) (b.cut ts c));
  derived = subst (λ toks. syntax.Reads 256 toks (ds ++ es)) (sym (map-append (tok_of text) a.tokens b.tokens))
      (reads_join 256 (toks_of text a.tokens) (toks_of text b.tokens) ds es a.derived b.derived);
}

-- nothing is read yet
pub none_read : (text : List ℕ) → ReadsPiece text 0 0 []
none_read text = record {
  tokens = [];
  cut = λ ts c. c;
  derived = record { placed = []; derived = empty; within = tt; tokens = refl };
}

-- all is read
pub all_read : (text : List ℕ) (at : ℕ) (ds : List Item) → length text ≤ at → ReadsPiece text 0 at ds → ReadsItems text ds
all_read text at ds le r = record {
  tokens = r.tokens;
  cut = subst (Cuts 0 text) (append-nil r.tokens) (r.cut [] (subst (λ xs. Cuts at xs []) (sym (drop_all at text le)) end));
  derived = r.derived;
}

-- what is declared first, and then the rest
pub declared_join : (text : List ℕ) (so mid all : Declarations) (ds es : List Item) → declared_all text so ds ≡ Good mid → declared_all text mid es ≡ Good all →
    declared_all text so (ds ++ es) ≡ Good all
declared_join text so mid all [] es h k = ap (λ d. declared_all text d es) (good_same so mid h) ∙ k
declared_join text so mid all (d ∷ ds) es h k =
    let one = opened (declared text so d) (λ next. declared_all text next ds) mid h in
    ap (λ a. and_then a (λ next. declared_all text next (ds ++ es))) one.1.0 ∙ declared_join text one.0 mid all ds es one.1.1 k
