-- What is put on a page, as lexemes.
use Rattle.std.proofs.Common.{◌≡◌, ℕ, List, [], ◌∷◌, ◌++◌, refl, sym, ap, ◌∙◌, append_assoc}
use Rattle.std.specs.Prelude.{codes, decimal}
use Rattle.std.proofs.lemmas.List.{append-nil}
use Rattle.hol_terms.specs.declared.ty.Ty.{Ty}
use Rattle.hol_terms.specs.Types.{is_ty}
use Rattle.hol_terms.proofs.TyCases.{is_ty_itself}
use Rattle.tptp_print.specs.declared.page.Page.{Page}
use Rattle.tptp_print.specs.Numbers.{number_in, with_type}
use Rattle.tptp_print.specs.Pages.{word, type_number, pieces}
use Rattle.problem_laws.proofs.Places.{noted_more, stays}
use Rattle.problem_laws.proofs.Lexemes.{Lexeme, Name, Variable, variable_word, laid}

-- lexemes in front of others
abbrev pub Front : Type 0
Front = List Lexeme → List Lexeme

-- over the types that have numbers in the end
module _ (T : List Ty) where
  pub record Writes (put : Page → Page) (front : Front) : Type 0 where
    pub more : (page : Page) → (m : List Ty) × ((put page).types ≡ page.types ++ m)
    pub bytes : (page : Page) (rest : List Ty) → T ≡ (put page).types ++ rest → (ys : List Lexeme) → (put page).bytes ++ laid ys ≡ page.bytes ++ laid (front ys)

  pub nothing : Writes (λ page. page) (λ ys. ys)
  nothing = record { more = λ page. ([], sym (append-nil page.types)); bytes = λ page rest e ys. refl }

  pub also : (p q : Page → Page) (f g : Front) → Writes p f → Writes q g → Writes (λ page. q (p page)) (λ ys. f (g ys))
  also p q f g hp hq = record {
    more = λ page. (
      (hp.more page).0 ++ (hq.more (p page)).0,
      (hq.more (p page)).1 ∙ ap (λ l. l ++ (hq.more (p page)).0) (hp.more page).1 ∙ append_assoc page.types (hp.more page).0 (hq.more (p page)).0,
    );
    bytes = λ page rest e ys.
        let m = hq.more (p page) in
        hq.bytes (p page) rest e ys ∙ hp.bytes page (m.0 ++ rest) (e ∙ ap (λ l. l ++ rest) m.1 ∙ append_assoc (p page).types m.0 rest) (g ys);
  }

  -- bytes that are so many lexemes
  pub said : (w : List ℕ) (f : Front) → ((ys : List Lexeme) → w ++ laid ys ≡ laid (f ys)) → Writes (word w) f
  said w f is = record {
    more = λ page. ([], sym (append-nil page.types));
    bytes = λ page rest e ys. append_assoc page.bytes w (laid ys) ∙ ap (λ l. page.bytes ++ l) (is ys);
  }

  -- a word in two parts
  pub said_both : (v w : List ℕ) → Writes (pieces (word v ∷ word w ∷ [])) (λ ys. Name (v ++ w) ∷ ys)
  said_both v w = record {
    more = λ page. ([], sym (append-nil page.types));
    bytes = λ page rest e ys. ap (λ l. l ++ laid ys) (append_assoc page.bytes v w) ∙ append_assoc page.bytes (v ++ w) (laid ys);
  }

  number_same : (a : Ty) (types rest : List Ty) → T ≡ with_type types a ++ rest → number_in types a ≡ number_in T a
  number_same a types rest e = sym (stays (is_ty a) a (is_ty_itself a) types rest) ∙ ap (λ l. number_in l a) (sym e)

  -- a word that ends in the number of a type
  pub typed : (w : List ℕ) (a : Ty) → Writes (pieces (word w ∷ type_number a ∷ [])) (λ ys. Name (w ++ decimal (number_in T a)) ∷ ys)
  typed w a = record {
    more = λ page. noted_more (is_ty a) a page.types;
    bytes = λ page rest e ys.
        ap (λ k. ((page.bytes ++ w) ++ decimal k) ++ laid ys) (number_same a page.types rest e)
        ∙ ap (λ l. l ++ laid ys) (append_assoc page.bytes w (decimal (number_in T a))) ∙ append_assoc page.bytes (w ++ decimal (number_in T a)) (laid ys);
  }

  pub varied : (n : ℕ) → Writes (pieces (word (codes "X") ∷ word (decimal n) ∷ [])) (λ ys. Variable n ∷ ys)
  varied n = record {
    more = λ page. ([], sym (append-nil page.types));
    bytes = λ page rest e ys. ap (λ l. l ++ laid ys) (append_assoc page.bytes (codes "X") (decimal n)) ∙ append_assoc page.bytes (variable_word n) (laid ys);
  }
