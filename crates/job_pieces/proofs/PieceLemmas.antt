-- Pieces of a format, one after another: URLs of fragments, and pairs whose values are texts.
use Rattle.std.proofs.Common.{◌≡◌, ℕ, zero, suc, ◌+◌, List, [], ◌∷◌, ◌++◌, Bool, true, false, Option, Some, None, is_some, map, filter_map, take, drop, if◌then◌else◌, codes, add-one, append_assoc, append-nil, refl, sym, ◌∙◌, ap}
use Rattle.std.specs.Prelude.{slice_get, option_map, option_and_then}
use Rattle.std.specs.List.{cons_option}
use Rattle.url.specs.Parts.{Parts}
use Rattle.info_tree.specs.Tree.{Tree}
use Rattle.info_tree.specs.Pairs.{member}
use Rattle.info_tree.specs.Plain.{plain}
use Rattle.info_tree.specs.declared.tree.Tree.{Tree as HeldTree}
use Rattle.info_tree.specs.declared.tree.Tree.TheVariants.{List as Items, Map}
use Rattle.info_tree.proofs.PairLemmas.{tree_list-trees_of, pair_list-pairs_of}
use Rattle.info_tree.specs.Scalars.{text_of}
use Rattle.job_pieces.specs.Component.{Text, Piece}
use Rattle.job_pieces.specs.Pieces.{fragment_url, fragment_urls, piece_of, text_pairs, items_of, fragments_of, pairs_in, header_pairs}

filter_next : {A B : Type 0} (h : A → Option B) (xs : List A) (i : ℕ) (x : A) → slice_get xs i ≡ Some x → filter_map h (take (suc i) xs) ≡ filter_map h (take i xs) ++ cons_option (h x) []
filter_next h [] i x e = absurd (cc)
filter_next h (y ∷ ys) zero x e = let same : y ≡ x = cc in ap (λ z. cons_option (h z) []) same
filter_next h (y ∷ ys) (suc i) x e = by (h y) (filter_next h ys i x e)
  where
    by : (o : Option _) → filter_map h (take (suc i) ys) ≡ filter_map h (take i ys) ++ cons_option (h x) [] →
        cons_option o (filter_map h (take (suc i) ys)) ≡ cons_option o (filter_map h (take i ys)) ++ cons_option (h x) []
    by None rest = rest
    by (Some b) rest = ap (λ l. b ∷ l) rest

-- one more pair of a map is looked at
pub pairs_more : (ps : List (Text × Tree)) (i : ℕ) (name : Text) (value : Tree) → slice_get ps i ≡ Some (name, value) →
    text_pairs (take (i + 1) ps) ≡ text_pairs (take i ps) ++ cons_option (option_map (λ text. (name, text)) (text_of value)) []
pairs_more ps i name value e =
    ap (λ n. text_pairs (take n ps)) (add-one i) ∙ filter_next (λ p. option_map (λ text. (p.0, text)) (text_of p.1)) ps i (name, value) e

-- a pair whose value is a text goes behind those before it, and any other is passed by
pub pairs_put : (ps : List (Text × Tree)) (i : ℕ) (name text : Text) (value : Tree) (before after : List (Text × Text)) → slice_get ps i ≡ Some (name, value) → Some text ≡ text_of value →
    before ≡ text_pairs (take i ps) → after ≡ before ++ (name, text) ∷ [] → after ≡ text_pairs (take (i + 1) ps)
pairs_put ps i name text value before after at is so put =
    put ∙ ap (λ (l : List (Text × Text)). l ++ (name, text) ∷ []) so ∙ ap (λ o. text_pairs (take i ps) ++ cons_option (option_map (λ t. (name, t)) o) []) is
    ∙ sym (pairs_more ps i name value at)

pub pairs_passed : (ps : List (Text × Tree)) (i : ℕ) (name : Text) (value : Tree) (before : List (Text × Text)) → slice_get ps i ≡ Some (name, value) → None ≡ text_of value →
    before ≡ text_pairs (take i ps) → before ≡ text_pairs (take (i + 1) ps)
pairs_passed ps i name value before at none so =
    so ∙ sym (append-nil (text_pairs (take i ps))) ∙ ap (λ o. text_pairs (take i ps) ++ cons_option (option_map (λ t. (name, t)) o) []) none ∙ sym (pairs_more ps i name value at)

drop_next : {A : Type 0} (xs : List A) (i : ℕ) (x : A) → slice_get xs i ≡ Some x → drop i xs ≡ x ∷ drop (suc i) xs
drop_next [] i x e = absurd (cc)
drop_next (y ∷ ys) zero x e = let same : y ≡ x = cc in ap (λ z. z ∷ ys) same
drop_next (y ∷ ys) (suc i) x e = drop_next ys i x e

-- what is left begins with what stands at the place
pub rest_next : {A : Type 0} (xs : List A) (i : ℕ) (x : A) → slice_get xs i ≡ Some x → drop i xs ≡ x ∷ drop (i + 1) xs
rest_next xs i x e = drop_next xs i x e ∙ ap (λ n. x ∷ drop n xs) (sym (add-one i))

url_there : (base : Option Parts) (fragment : Tree) (fragments : List Tree) → is_some (fragment_url base fragment) ≡ true →
    is_some (fragment_urls base (fragment ∷ fragments)) ≡ is_some (fragment_urls base fragments)
url_there base fragment fragments has = by (fragment_url base fragment) (fragment_urls base fragments) has
  where
    by : (o : Option Text) (more : Option (List Text)) → is_some o ≡ true → is_some (option_and_then (λ url. option_map (λ urls. url ∷ urls) more) o) ≡ is_some more
    by None more h = absurd (cc)
    by (Some url) None h = refl
    by (Some url) (Some urls) h = refl

no_url : (base : Option Parts) (fragment : Tree) (fragments : List Tree) → is_some (fragment_url base fragment) ≡ false → fragment_urls base (fragment ∷ fragments) ≡ None
no_url base fragment fragments none = by (fragment_url base fragment) none
  where
    by : (o : Option Text) → is_some o ≡ false → option_and_then (λ url. option_map (λ urls. url ∷ urls) (fragment_urls base fragments)) o ≡ None
    by None h = refl
    by (Some url) h = absurd (cc)

-- one more fragment has a URL
pub urls_more : (base : Option Parts) (fragments : List Tree) (i : ℕ) (fragment : Tree) → slice_get fragments i ≡ Some fragment → is_some (fragment_url base fragment) ≡ true →
    is_some (fragment_urls base (drop i fragments)) ≡ is_some (fragment_urls base fragments) → is_some (fragment_urls base (drop (i + 1) fragments)) ≡ is_some (fragment_urls base fragments)
urls_more base fragments i fragment at has so =
    sym (url_there base fragment (drop (i + 1) fragments) has) ∙ ap (λ fs. is_some (fragment_urls base fs)) (sym (rest_next fragments i fragment at)) ∙ so

-- a fragment has none
pub urls_none : (base : Option Parts) (fragments : List Tree) (i : ℕ) (fragment : Tree) (listed : Bool) → slice_get fragments i ≡ Some fragment → is_some (fragment_url base fragment) ≡ false →
    is_some (fragment_urls base (drop i fragments)) ≡ is_some (fragment_urls base fragments) → false ≡ is_some (if listed then fragment_urls base fragments else None)
urls_none base fragments i fragment true at none so =
    ap is_some (sym (no_url base fragment (drop (i + 1) fragments) none)) ∙ ap (λ fs. is_some (fragment_urls base fs)) (sym (rest_next fragments i fragment at)) ∙ so
urls_none base fragments i fragment false at none so = refl

-- the pieces of a front of URLs and of the rest are those of all
pub pieces_next : (base : Option Parts) (format : Tree) (fragments : List Tree) (i : ℕ) (fragment : Tree) (url : Text) (front new : List Piece) (all : Option (List Piece)) →
    slice_get fragments i ≡ Some fragment → fragment_url base fragment ≡ Some url → new ≡ front ++ piece_of format url ∷ [] →
    option_map (λ urls. front ++ map (piece_of format) urls) (fragment_urls base (drop i fragments)) ≡ all →
    option_map (λ urls. new ++ map (piece_of format) urls) (fragment_urls base (drop (i + 1) fragments)) ≡ all
pieces_next base format fragments i fragment url front new all at is push so =
    by (fragment_urls base (drop (i + 1) fragments)) refl
    ∙ ap (λ o. option_map (λ urls. front ++ map (piece_of format) urls) (option_and_then (λ url. option_map (λ urls. url ∷ urls) (fragment_urls base (drop (i + 1) fragments))) o)) (sym is)
    ∙ ap (λ fs. option_map (λ urls. front ++ map (piece_of format) urls) (fragment_urls base fs)) (sym (rest_next fragments i fragment at)) ∙ so
  where
    by : (more : Option (List Text)) → fragment_urls base (drop (i + 1) fragments) ≡ more →
        option_map (λ urls. new ++ map (piece_of format) urls) more ≡ option_map (λ urls. front ++ map (piece_of format) urls) (option_map (λ urls. url ∷ urls) more)
    by None e = refl
    by (Some urls) e = ap Some (ap (λ (l : List Piece). l ++ map (piece_of format) urls) push ∙ append_assoc front (piece_of format url ∷ []) (map (piece_of format) urls))

-- a fragment without a URL leaves no pieces
pub pieces_none : (base : Option Parts) (format : Tree) (fragments : List Tree) (i : ℕ) (fragment : Tree) (front : List Piece) (listed : Bool) → slice_get fragments i ≡ Some fragment →
    fragment_url base fragment ≡ None →
    option_map (λ urls. front ++ map (piece_of format) urls) (fragment_urls base (drop i fragments)) ≡ option_map (map (piece_of format)) (fragment_urls base fragments) →
    ◌≡◌ {A = Option (List Piece)} None (option_map (map (piece_of format)) (if listed then fragment_urls base fragments else None))
pieces_none base format fragments i fragment front true at none so =
    ap (λ o. option_map (λ urls. front ++ map (piece_of format) urls) (option_and_then (λ url. option_map (λ urls. url ∷ urls) (fragment_urls base (drop (i + 1) fragments))) o)) (sym none)
    ∙ ap (λ fs. option_map (λ urls. front ++ map (piece_of format) urls) (fragment_urls base fs)) (sym (rest_next fragments i fragment at)) ∙ so
pieces_none base format fragments i fragment front false at none so = refl

-- the fragments of a format that has a list of them
pub listed : (format : Tree) (held : HeldTree) (fragments : List Tree) → held ≡ Items fragments → Some (plain held) ≡ member format (codes "fragments") → Some fragments ≡ fragments_of format
listed format held fragments is e =
    sym (ap (option_and_then items_of) (sym e) ∙ ap (λ t. items_of (plain t)) is ∙ ap Some (tree_list-trees_of fragments))

-- the headers of a format that has a map of them
pub mapped : (format : Tree) (held : HeldTree) (pairs : List (Text × Tree)) → held ≡ Map pairs → Some (plain held) ≡ member format (codes "http_headers") → Some pairs ≡ header_pairs format
mapped format held pairs is e =
    sym (ap (option_and_then pairs_in) (sym e) ∙ ap (λ t. pairs_in (plain t)) is ∙ ap Some (pair_list-pairs_of pairs))
