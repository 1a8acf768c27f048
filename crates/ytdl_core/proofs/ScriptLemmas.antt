-- Scripts as lists: chunks one behind another, and what their bytes do to two sinks.
use Rattle.std.proofs.Common.{◌≡◌, ℕ, zero, suc, get_or, ◌+◌, ◌<◌, List, [], ◌∷◌, ◌++◌, length, take, drop, refl, sym, ◌∙◌, ap, arith, append_assoc, min}
use Rattle.std.specs.Prelude.{Option, Some, None}
use Rattle.std.specs.String.{string_bytes}
use Rattle.std.specs.Io.KnownBytes.{Appends}
use Rattle.std.proofs.lemmas.List.{append-nil, take-append-le, take-append-drop, take_min, take_more}
use Rattle.std.proofs.Math.Seq.{take-append-add}
use Rattle.ytdl_core.specs.declared.lines.Chunk.{Chunk}
use Rattle.ytdl_core.specs.declared.run_fault.Which.{Which}
use Rattle.ytdl_core.specs.declared.run_fault.Which.TheVariants as which
use Rattle.ytdl_core.specs.Lines.{Script, all_to, out_bytes, err_bytes, Sends, SendsSome}
use Rattle.ytdl_core.specs.Chunks.{script_of}
use Rattle.ytdl_core.specs.Outside.{AppendsFront}

pub script_of-append : (xs ys : List Chunk) → script_of (xs ++ ys) ≡ script_of xs ++ script_of ys
script_of-append [] ys = refl
script_of-append (x ∷ xs) ys =
    ap (λ s. all_to x.which (string_bytes x.bytes) ++ s) (script_of-append xs ys) ∙
    sym (append_assoc (all_to x.which (string_bytes x.bytes)) (script_of xs) (script_of ys))

-- a chunk pushed behind others
pub script_of-push : (old : List Chunk) (chunk : Chunk) →
    script_of (old ++ chunk ∷ []) ≡ script_of old ++ all_to chunk.which (string_bytes chunk.bytes)
script_of-push old chunk =
    script_of-append old (chunk ∷ []) ∙ ap (λ s. script_of old ++ s) (append-nil (all_to chunk.which (string_bytes chunk.bytes)))

pub all_to-append : (w : Which) (xs ys : List ℕ) → all_to w (xs ++ ys) ≡ all_to w xs ++ all_to w ys
all_to-append w [] ys = refl
all_to-append w (x ∷ xs) ys = ap (λ s. (w, x) ∷ s) (all_to-append w xs ys)

-- a last chunk that took one more line to the same sink
pub script_of-grown : (front : List Chunk) (last grown line : Chunk) → grown.which ≡ last.which → last.which ≡ line.which →
    string_bytes grown.bytes ≡ string_bytes last.bytes ++ string_bytes line.bytes →
    script_of (front ++ grown ∷ []) ≡ script_of (front ++ last ∷ []) ++ all_to line.which (string_bytes line.bytes)
script_of-grown front last grown line same sink bytes =
    script_of-push front grown ∙
    ap (λ s. script_of front ++ s) (rw (same, bytes) (all_to-append last.which (string_bytes last.bytes) (string_bytes line.bytes))) ∙
    sym (append_assoc (script_of front) (all_to last.which (string_bytes last.bytes)) (all_to last.which (string_bytes line.bytes))) ∙
    rw (← script_of-push front last, sink) refl

pub all_to-take : (w : Which) (n : ℕ) (xs : List ℕ) → take n (all_to w xs) ≡ all_to w (take n xs)
all_to-take w zero xs = refl
all_to-take w (suc n) [] = refl
all_to-take w (suc n) (x ∷ xs) = ap (λ s. (w, x) ∷ s) (all_to-take w n xs)

pub length-all_to : (w : Which) (xs : List ℕ) → length (all_to w xs) ≡ length xs
length-all_to w [] = refl
length-all_to w (x ∷ xs) = ap (λ n. suc n) (length-all_to w xs)

pub out_bytes-append : (a b : Script) → out_bytes (a ++ b) ≡ out_bytes a ++ out_bytes b
out_bytes-append [] b = refl
out_bytes-append ((which.Out, x) ∷ a) b = ap (λ l. x ∷ l) (out_bytes-append a b)
out_bytes-append ((which.Err, x) ∷ a) b = out_bytes-append a b

pub err_bytes-append : (a b : Script) → err_bytes (a ++ b) ≡ err_bytes a ++ err_bytes b
err_bytes-append [] b = refl
err_bytes-append ((which.Out, x) ∷ a) b = err_bytes-append a b
err_bytes-append ((which.Err, x) ∷ a) b = ap (λ l. x ∷ l) (err_bytes-append a b)

pub out_of_out : (xs : List ℕ) → out_bytes (all_to which.Out xs) ≡ xs
out_of_out [] = refl
out_of_out (x ∷ xs) = ap (λ l. x ∷ l) (out_of_out xs)

pub err_of_out : (xs : List ℕ) → err_bytes (all_to which.Out xs) ≡ []
err_of_out [] = refl
err_of_out (x ∷ xs) = err_of_out xs

pub out_of_err : (xs : List ℕ) → out_bytes (all_to which.Err xs) ≡ []
out_of_err [] = refl
out_of_err (x ∷ xs) = out_of_err xs

pub err_of_err : (xs : List ℕ) → err_bytes (all_to which.Err xs) ≡ xs
err_of_err [] = refl
err_of_err (x ∷ xs) = ap (λ l. x ∷ l) (err_of_err xs)

pub appends_more : (a b c : Option (List ℕ)) (x y : List ℕ) → Appends a b x → Appends b c y → Appends a c (x ++ y)
appends_more None b c x y e f = tt
appends_more (Some p) None c x y e f = absurd e
appends_more (Some p) (Some q) None x y e f = absurd f
appends_more (Some p) (Some q) (Some r) x y e f = f ∙ ap (λ l. l ++ y) e ∙ append_assoc p x y

pub appends_none : (a : Option (List ℕ)) → Appends a a []
appends_none None = tt
appends_none (Some p) = sym (append-nil p)

-- one script behind another
pub sends_more : (s t : Script) (out out' out'' err err' err'' : Option (List ℕ)) →
    Sends s out out' err err' → Sends t out' out'' err' err'' → Sends (s ++ t) out out'' err err''
sends_more s t out out' out'' err err' err'' first second = record {
  to_out = rw (out_bytes-append s t) (appends_more out out' out'' (out_bytes s) (out_bytes t) first.to_out second.to_out);
  to_err = rw (err_bytes-append s t) (appends_more err err' err'' (err_bytes s) (err_bytes t) first.to_err second.to_err);
}

-- a chunk that one of the sinks took
pub sends_out : (w : Which) (bytes taken : List ℕ) (out out' err : Option (List ℕ)) → w ≡ which.Out → taken ≡ bytes →
    Appends out out' taken → Sends (all_to w bytes) out out' err err
sends_out w bytes taken out out' err is same took = record {
  to_out = rw (is, out_of_out bytes, ← same) took;
  to_err = rw (is, err_of_out bytes) (appends_none err);
}

pub sends_err : (w : Which) (bytes taken : List ℕ) (out err err' : Option (List ℕ)) → w ≡ which.Err → taken ≡ bytes →
    Appends err err' taken → Sends (all_to w bytes) out out err err'
sends_err w bytes taken out err err' is same took = record {
  to_out = rw (is, out_of_err bytes) (appends_none out);
  to_err = rw (is, err_of_err bytes, ← same) took;
}

some_of : (w : Which) (bytes : List ℕ) (n : ℕ) (out out' err err' : Option (List ℕ)) →
    Sends (all_to w (take n bytes)) out out' err err' → SendsSome (all_to w bytes) out out' err err'
some_of w bytes n out out' err err' sends = record { count = n; front = rw (all_to-take w n bytes) sends }

-- a front of a chunk
pub some_out : (w : Which) (bytes taken : List ℕ) (out out' err : Option (List ℕ)) → w ≡ which.Out → taken ≡ bytes →
    AppendsFront out out' taken → SendsSome (all_to w bytes) out out' err err
some_out w bytes taken None out' err is same took =
    some_of w bytes 0 None out' err err (sends_out w [] [] None out' err is refl tt)
some_out w bytes taken (Some xs) None err is same took = absurd took
some_out w bytes taken (Some xs) (Some ys) err is same took =
    some_of w bytes took.0 (Some xs) (Some ys) err err
    (sends_out w (take took.0 bytes) (take took.0 taken) (Some xs) (Some ys) err is (ap (λ l. take took.0 l) same) took.1)

pub some_err : (w : Which) (bytes taken : List ℕ) (out err err' : Option (List ℕ)) → w ≡ which.Err → taken ≡ bytes →
    AppendsFront err err' taken → SendsSome (all_to w bytes) out out err err'
some_err w bytes taken out None err' is same took =
    some_of w bytes 0 out out None err' (sends_err w [] [] out None err' is refl tt)
some_err w bytes taken out (Some xs) None is same took = absurd took
some_err w bytes taken out (Some xs) (Some ys) is same took =
    some_of w bytes took.0 out out (Some xs) (Some ys)
    (sends_err w (take took.0 bytes) (take took.0 taken) out (Some xs) (Some ys) is (ap (λ l. take took.0 l) same) took.1)

-- a front of a script behind a whole one
pub some_more : (s t : Script) (out out' out'' err err' err'' : Option (List ℕ)) →
    Sends s out out' err err' → SendsSome t out' out'' err' err'' → SendsSome (s ++ t) out out'' err err''
some_more s t out out' out'' err err' err'' first second = record {
  count = length s + second.count;
  front = rw (take-append-add s t second.count)
      (sends_more s (take second.count t) out out' out'' err err' err'' first second.front);
}

-- a front of a front
pub some_front : (s t : Script) (out out' err err' : Option (List ℕ)) → SendsSome s out out' err err' → SendsSome (s ++ t) out out' err err'
some_front s t out out' err err' some = record {
  count = min some.count (length s);
  front = rw (take-append-le (min some.count (length s)) s t (omega arith), take_min some.count s) some.front;
}

-- nothing was sent
pub sends_nothing : (out err : Option (List ℕ)) → Sends [] out out err err
sends_nothing out err = record { to_out = appends_none out; to_err = appends_none err }

-- the script of chunks, at one of them
pub script_up_to : (chunks : List Chunk) (k : ℕ) (chunk : Chunk) → k < length chunks → chunk ≡ get_or chunks k chunk →
    script_of (take (k + 1) chunks) ≡ script_of (take k chunks) ++ all_to chunk.which (string_bytes chunk.bytes)
script_up_to chunks k chunk inside is =
    let one : take (k + 1) chunks ≡ take k chunks ++ chunk ∷ [] =
    take_more chunks k chunk inside ∙ ap (λ p. take k chunks ++ p ∷ []) (sym is) in
    rw one (script_of-push (take k chunks) chunk)

pub script_at : (chunks : List Chunk) (k : ℕ) (chunk : Chunk) → k < length chunks → chunk ≡ get_or chunks k chunk →
    script_of chunks ≡ (script_of (take k chunks) ++ all_to chunk.which (string_bytes chunk.bytes)) ++ script_of (drop (k + 1) chunks)
script_at chunks k chunk inside is =
    rw (
      ← script_up_to chunks k chunk inside is,
      ← script_of-append (take (k + 1) chunks) (drop (k + 1) chunks),
      take-append-drop (k + 1) chunks,
    ) refl
