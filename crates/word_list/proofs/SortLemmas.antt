-- Where no use is at fault, the sort words give an order, and it is the one that is set word by word.
use Rattle.std.proofs.Common.{◌≡◌, ℕ, ◌+◌, List, [], ◌∷◌, ◌++◌, length, Bool, true, false, ◌==◌, refl, sym, ap, ◌∙◌, subst, append_assoc}
use Rattle.std.specs.Prelude.{if◌then◌else◌, Some, Result, Ok, Err, IfOk}
use Rattle.std.proofs.lemmas.List.{append-nil}
use Rattle.fmt_sort.specs.Reading.{behind_others, pieces_of, pieces_given, word_given, words_given, wish_by, wish_when}
use Rattle.fmt_sort.specs.Spec.{Given}
use Rattle.fmt_sort.specs.declared.sort_fault.SortFault.{SortFault}
use Rattle.fmt_sort.proofs.NumberLemmas.{word_read}
use Rattle.word_list.specs.declared.choosing.ChoosingFlag.TheVariants.{Force, Free, VideoStreams, AudioStreams}
use Rattle.word_list.specs.declared.choosing.ChoosingValue.TheVariants.{Format, Sort, Containers}
use Rattle.word_list.specs.declared.fault.OptionFault.{OptionFault}
use Rattle.word_list.specs.declared.fault.OptionFault.TheVariants.{BadValue, Sort as BadSort}
use Rattle.word_list.specs.declared.fault.WordsFault.{WordsFault}
use Rattle.word_list.specs.declared.meaning.Flag.{Flag}
use Rattle.word_list.specs.declared.meaning.Flag.TheVariants as flags
use Rattle.word_list.specs.declared.meaning.Valued.TheVariants as values
use Rattle.word_list.specs.Entries.{containers_of}
use Rattle.word_list.specs.Faults.{result_map, result_map_err, result_and_then}
use Rattle.word_list.specs.Groups.{Choosing, sort_given, source_given, naming_given, showing_given, fetching_given, tools_given}
use Rattle.word_list.specs.Settings.{Settings, no_settings, turned_on, used, after}
use Rattle.word_list.specs.Uses.{Use, turned, given, reading}
use Rattle.word_list.specs.Values.{selector_of}
use Rattle.word_list.specs.Words.{HaveAnOrder, IsOrder, sort_words}

-- what a value makes is there only where the value is
pub mapped : {T U E : Type 0} (f : T → U) (r : Result T E) (u : U) → result_map f r ≡ Ok u → (x : T) × (r ≡ Ok x) × (u ≡ f x)
mapped f (Ok x) u is = (x, refl, cc is)
mapped f (Err e) u is = cc is

pub unplaced : {T E F : Type 0} (g : E → F) (r : Result T E) (x : T) → result_map_err g r ≡ Ok x → r ≡ Ok x
unplaced g (Ok y) x is = cc is
unplaced g (Err e) x is = cc is

pub goes_on : {T U E : Type 0} (r : Result T E) (f : T → Result U E) (u : U) → result_and_then r f ≡ Ok u → (x : T) × (r ≡ Ok x) × (f x ≡ Ok u)
goes_on (Ok x) f u is = (x, refl, is)
goes_on (Err e) f u is = cc is

-- the fields and the count of pieces stay
abbrev Keeps : Settings → Settings → Type 0
Keeps s t = (t.choosing.given ≡ s.choosing.given) × (t.choosing.pieces ≡ s.choosing.pieces)

kept_flag : (flag : Flag) (s : Settings) → Keeps s (turned_on flag s)
kept_flag (flags.Choosing (Force on)) s = (refl, refl)
kept_flag (flags.Choosing (Free on)) s = (refl, refl)
kept_flag (flags.Choosing (VideoStreams on)) s = (refl, refl)
kept_flag (flags.Choosing (AudioStreams on)) s = (refl, refl)
kept_flag (flags.Naming flag) s = (refl, refl)
kept_flag (flags.Showing flag) s = (refl, refl)
kept_flag (flags.Fetching flag) s = (refl, refl)
kept_flag (flags.Tools flag) s = (refl, refl)

-- a value of another group, or of another option, leaves them
kept_by : {T : Type 0} (s t : Settings) (f : T → Settings) (r : Result T OptionFault) → ((x : T) → Keeps s (f x)) → result_map f r ≡ Ok t → Keeps s t
kept_by s t f r each is = let (x, there, same) = mapped f r t is in subst (λ u. Keeps s u) (sym same) (each x)

kept_choosing : {T : Type 0} (s t : Settings) (f : T → Choosing) (r : Result T OptionFault) →
    ((x : T) → ((f x).given ≡ s.choosing.given) × ((f x).pieces ≡ s.choosing.pieces)) →
    result_map (λ g. record s { choosing = g }) (result_map f r) ≡ Ok t → Keeps s t
kept_choosing s t f r each is =
    let (g, there, same) = mapped (λ g. record s { choosing = g }) (result_map f r) t is in
    let (x, read, made) = mapped f r g there in
    subst (λ u. Keeps s u) (sym same) (rw made (each x))

-- what a sort word that is read gives
sort_read_by : (c d : Choosing) (word : List ℕ) (r : Result (List Given) SortFault) (b : Bool) → pieces_given c.pieces (pieces_of word) ≡ r →
    (if b then Err BadValue
    else result_map (λ _. record c { given = word_given word ++ c.given; pieces = c.pieces + length (pieces_of word) }) (result_map_err BadSort r)) ≡ Ok d →
    (pieces_given c.pieces (pieces_of word) ≡ Ok (word_given word))
    × (d ≡ record c { given = word_given word ++ c.given; pieces = c.pieces + length (pieces_of word) })
sort_read_by c d word r true read is = cc is
sort_read_by c d word (Ok fields) false read is = (read ∙ ap (λ z. Ok z) (sym (word_read c.pieces word fields read)), cc is)
sort_read_by c d word (Err fault) false read is = cc is

sort_read : (c d : Choosing) (word : List ℕ) → sort_given word c ≡ Ok d →
    (pieces_given c.pieces (pieces_of word) ≡ Ok (word_given word))
    × (d ≡ record c { given = word_given word ++ c.given; pieces = c.pieces + length (pieces_of word) })
unfolding sort_given
sort_read c d word is = sort_read_by c d word (pieces_given c.pieces (pieces_of word)) (length word == 0) refl is

-- The sort words of uses, whose pieces are counted on, give fields, which stand before those that are set already.
abbrev Gathers : Settings → Settings → List Use → Type 0
Gathers s t uses =
    (fields : List Given) × (words_given s.choosing.pieces (sort_words uses) ≡ Ok fields) × (t.choosing.given ≡ fields ++ s.choosing.given)

-- a use that is no sort word changes nothing of it
passed : (s u t : Settings) (words : List (List ℕ)) → Keeps s u →
    (fields : List Given) × (words_given u.choosing.pieces words ≡ Ok fields) × (t.choosing.given ≡ fields ++ u.choosing.given) →
    (fields : List Given) × (words_given s.choosing.pieces words ≡ Ok fields) × (t.choosing.given ≡ fields ++ s.choosing.given)
passed s u t words keeps later =
    let (fields, read, same) = later in
    (fields, subst (λ k. words_given k words ≡ Ok fields) keeps.1 read, same ∙ ap (λ z. fields ++ z) keeps.0)

-- a sort word puts its fields behind those of later ones
one_more : (s t : Settings) (d : Choosing) (word : List ℕ) (uses : List Use) → sort_given word s.choosing ≡ Ok d →
    Gathers (record s { choosing = d }) t uses →
    (fields : List Given) × (words_given s.choosing.pieces (word ∷ sort_words uses) ≡ Ok fields) × (t.choosing.given ≡ fields ++ s.choosing.given)
one_more s t d word uses is later =
    let (read, made) = sort_read s.choosing d word is in
    let (fields, others, same) = later in
    let next : words_given (s.choosing.pieces + length (pieces_of word)) (sort_words uses) ≡ Ok fields =
    subst (λ k. words_given k (sort_words uses) ≡ Ok fields) (ap (λ z. z.pieces) made) others in (
      fields ++ word_given word,
      ap (λ z. behind_others z (words_given (s.choosing.pieces + length (pieces_of word)) (sort_words uses))) read
          ∙ ap (λ z. behind_others (Ok (word_given word)) z) next,
      same ∙ ap (λ z. fields ++ z.given) made ∙ sym (append_assoc fields (word_given word) s.choosing.given),
    )

-- one use before others
step : (s u t : Settings) (first : Use) (uses : List Use) → used first s ≡ Ok u → Gathers u t uses → Gathers s t (first ∷ uses)
step s u t (turned flag) uses is later =
    let same : u ≡ turned_on flag s = cc is in
    passed s u t (sort_words uses) (rw same (kept_flag flag s)) later
step s u t (given place (values.Source option) value) uses is later =
    passed s u t (sort_words uses) (kept_by s u (λ g. record s { source = g }) (source_given option value s.source) (λ g. (refl, refl)) (unplaced _ _ u is)) later
step s u t (given place (values.Naming option) value) uses is later =
    passed s u t (sort_words uses) (kept_by s u (λ g. record s { naming = g }) (naming_given option value s.naming) (λ g. (refl, refl)) (unplaced _ _ u is)) later
step s u t (given place (values.Showing option) value) uses is later =
    passed s u t (sort_words uses) (kept_by s u (λ g. record s { showing = g }) (showing_given option value s.showing) (λ g. (refl, refl)) (unplaced _ _ u is)) later
step s u t (given place (values.Fetching option) value) uses is later =
    passed s u t (sort_words uses) (kept_by s u (λ g. record s { fetching = g }) (fetching_given option value s.fetching) (λ g. (refl, refl)) (unplaced _ _ u is)) later
step s u t (given place (values.Tools option) value) uses is later =
    passed s u t (sort_words uses) (kept_by s u (λ g. record s { tools = g }) (tools_given option value s.tools) (λ g. (refl, refl)) (unplaced _ _ u is)) later
step s u t (given place (values.Choosing Format) value) uses is later =
    passed s u t (sort_words uses) (kept_choosing s u (λ x. record s.choosing { sel = Some x }) (selector_of value) (λ x. (refl, refl)) (unplaced _ _ u is)) later
step s u t (given place (values.Choosing Containers) value) uses is later =
    passed s u t (sort_words uses) (kept_choosing s u (λ x. record s.choosing { containers = x }) (containers_of value) (λ x. (refl, refl)) (unplaced _ _ u is)) later
step s u t (given place (values.Choosing Sort) word) uses is later =
    let (d, read, same) = mapped (λ g. record s { choosing = g }) (sort_given word s.choosing) u (unplaced _ _ u is) in
    one_more s t d word uses read (rw same at later)

gathered : (s t : Settings) (uses : List Use) → after s uses ≡ Ok t → Gathers s t uses
gathered s t [] is = let same : t ≡ s = cc is in ([], refl, ap (λ z. z.choosing.given) same)
gathered s t (first ∷ uses) is =
    let (u, ok, later) = goes_on (used first s) (λ v. after v uses) t is in
    step s u t first uses ok (gathered u t uses later)

ordered : (uses : List Use) (r : Result Settings WordsFault) → after no_settings uses ≡ r → IfOk r (IsOrder (sort_words uses))
ordered uses (Ok s) is =
    let (fields, read, same) = gathered no_settings s uses is in
    ap (wish_by s.choosing.force s.choosing.free) read
    ∙ ap (λ z. Ok (wish_when s.choosing.force s.choosing.free z)) (sym (same ∙ append-nil fields))
ordered uses (Err fault) is = tt

pub have_an_order : (words : List (List ℕ)) → HaveAnOrder words
have_an_order words = ordered (reading 0 words).uses (after no_settings (reading 0 words).uses) refl
