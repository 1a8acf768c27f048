-- From a body that was poured to what it comes to.
use Rattle.std.proofs.Common.{◌≡◌, ℕ, List, refl, sym, ap, ◌∙◌, subst, inl, inr, Bool, true, false, not, Result, Ok, Err, Option, Some, None, drop, take}
use Rattle.std.specs.Prelude.{if◌then◌else◌}
use Rattle.http_reply.specs.declared.stop.Stop.{Stop}
use Rattle.http_reply.specs.declared.stop.Stop.TheVariants.{Last, Cut, Bad, Long}
use Rattle.http_reply.specs.declared.plan.Plan.{Plan}
use Rattle.http_reply.specs.declared.plan.Plan.TheVariants.{Whole, Ranged}
use Rattle.http_reply.specs.declared.chunks.Chunks.{Chunks}
use Rattle.http_reply.specs.declared.part.Part.TheVariants as part
use Rattle.http_reply.specs.Machine.{content_of}
use Rattle.http_reply.specs.Chunked.{chunks as chunked_content}
use Rattle.http_reply.specs.Verdict.{plan_verdict, chunked_verdict}
use Rattle.std.specs.Prelude.{IsTrue}
use Rattle.folder_base.specs.declared.store_fault.StoreFault.{StoreFault}
use Rattle.folder_base.specs.declared.store_fault.StoreFault.TheVariants as store
use Rattle.http_reply.specs.declared.piece_fault.PieceFault.{PieceFault}
use Rattle.http_reply.specs.declared.piece_fault.PieceFault.TheVariants as piece
use Rattle.http_reply.specs.Verdict.{Verdict}
use Rattle.link_http.specs.declared.fetched.Fetched.{Fetched}
use Rattle.link_http.specs.declared.body_end.BodyEnd.{BodyEnd}
use Rattle.link_http.specs.declared.body_fault.BodyFault.{BodyFault}
use Rattle.link_http.specs.declared.body_fault.BodyFault.TheVariants as body
use Rattle.link_http.specs.Wire.{Wire, Counts}
use Rattle.link_http.specs.Body.{At, to_come, Ends, Fails, is_unheard, RefusedBy, Poured}
use Rattle.link_http.specs.Taking.{names_call, is_judged, as_end, of_body, IsRefusal, Takes}
use Rattle.http_reply.specs.Faults.{is_broken, is_call}
use Rattle.link_http.proofs.WireLemmas.{counts_as}
use Rattle.http_reply.specs.Faults.{Origin, of_asking, of_hearing, of_taking, of_url, of_reply, origin, breaks, dials}

pub broken_of : (fault : BodyFault) → is_broken (of_body fault) ≡ true
broken_of body.Recv = refl
broken_of (body.Store (store.Folder call)) = refl
broken_of (body.Store store.OutOfMemory) = refl

-- what breaks no try is no failed call
no_call : (o : Origin) → not (breaks o) ≡ true → dials o ≡ false
no_call of_asking e = absurd (cc)
no_call of_hearing e = absurd (cc)
no_call of_taking e = refl
no_call of_url e = refl
no_call of_reply e = refl

judged_heard : (result : Result Fetched PieceFault) → IsTrue (is_judged result) → names_call result ≡ false
judged_heard (Ok fetched) judged = refl
judged_heard (Err fault) judged = no_call (origin fault) judged

pub counts_judged : (result : Result Fetched PieceFault) (old new : Wire) → IsTrue (is_judged result) → Counts old new false → Counts old new (names_call result)
counts_judged result old new judged counts = counts_as old new false (names_call result) (judged_heard result judged) counts

pub broken_not_judged : (result : Result Fetched PieceFault) (fault : PieceFault) → result ≡ Err fault → IsTrue (is_broken fault) → IsTrue (is_judged result) → ⊥
broken_not_judged result fault is broken judged =
    let e : not (is_broken fault) ≡ true = subst (λ (r : Result Fetched PieceFault). IsTrue (is_judged r)) is judged in
    let f : false ≡ true = sym (ap not broken) ∙ e in absurd (cc)

err_same : (a b : PieceFault) → ◌≡◌ {A = Result Fetched PieceFault} (Err a) (Err b) → a ≡ b
err_same a b e = cc

-- The counts, by the answer.
pub counts_broken : (fault : BodyFault) (old new : Wire) → Counts old new (is_unheard {A = BodyEnd} (Err fault)) → Counts old new (names_call {A = Fetched} (Err (of_body fault)))
counts_broken body.Recv old new counts = counts
counts_broken (body.Store (store.Folder call)) old new counts = counts
counts_broken (body.Store store.OutOfMemory) old new counts = counts

module _ {T : Type 0} (took : T → List ℕ → T → Type 0) (may_refuse : T → List ℕ → StoreFault → Type 0) where
  refusal_of : (fault : BodyFault) (between : T) (bytes : List ℕ) → RefusedBy took may_refuse fault between bytes
      → IsRefusal took may_refuse (of_body fault) between bytes
  refusal_of body.Recv between bytes why = inl (why, λ call e. absurd (cc))
  refusal_of (body.Store fault) between bytes why = inr (fault, refl, why)

  pub fails_takes : (fault : BodyFault) (old : At) (t u : T) (wire : Wire) (verdict : Verdict) → verdict.bytes ≡ (to_come old).bytes
      → Fails took may_refuse fault old t wire u → Takes took may_refuse verdict (IsTrue wire.tells) (Err (of_body fault)) t u
  fails_takes fault old t u wire verdict same fails = record {
    judged = λ judged. absurd (broken_not_judged (Err (of_body fault)) (of_body fault) refl (broken_of fault) judged);
    broken = λ f is broken.
        let e : of_body fault ≡ f = err_same (of_body fault) f is in (
          record {
            bytes = fails.bytes;
            between = fails.between;
            piece = fails.piece;
            taken = fails.taken;
            some = fails.some;
            why = subst (λ (x : PieceFault). IsRefusal took may_refuse x fails.between fails.piece) e (refusal_of fault fails.between fails.piece fails.why);
          },
          λ tells. let front = fails.front tells in (front.0, same ∙ front.1),
        );
  }

  pub ends_takes : (end : BodyEnd) (old : At) (t u : T) (wire : Wire) (verdict : Verdict) (result : Result Fetched PieceFault)
      → IsTrue (is_judged result) → verdict.bytes ≡ (to_come old).bytes → ((to_come old).end ≡ end → as_end result ≡ verdict.end)
      → Ends took may_refuse end old t wire u → Takes took may_refuse verdict (IsTrue wire.tells) result t u
  ends_takes end old t u wire verdict result judged same by ends = record {
    judged = λ _. (
      ends.bytes,
      ends.taken,
      λ tells. (same ∙ ap (λ (p : Poured). p.bytes) (ends.whole tells), sym (by (ap (λ (p : Poured). p.end) (ends.whole tells)))),
    );
    broken = λ f is broken. absurd (broken_not_judged result f is broken judged);
  }

-- The verdict's bytes are those of the body that is poured.
pub same_sized : (from : ℕ) (known : Option ℕ) (at : ℕ) (rest : List ℕ) (total : ℕ) (plan : Plan) (chunks : Chunks)
    → plan ≡ Whole (Some total) → chunks ≡ record { at = at; sum = total; part = part.Whole total }
    → (plan_verdict from known at rest plan).bytes ≡ drop from (content_of chunks rest).bytes
same_sized from known at rest total plan chunks p c = rw (p, c) refl

chunked_bytes : (from : ℕ) (known : Option ℕ) (content : List ℕ) (stop : Stop) → (chunked_verdict from known content stop).bytes ≡ drop from content
chunked_bytes from known content Last = refl
chunked_bytes from known content Cut = refl
chunked_bytes from known content (Bad at) = refl
chunked_bytes from known content (Long sum) = refl

pub same_chunked : (from : ℕ) (known : Option ℕ) (at : ℕ) (rest : List ℕ) (plan : Plan) (chunks : Chunks)
    → plan ≡ Whole None → chunks ≡ record { at = at; sum = 0; part = part.Line }
    → (plan_verdict from known at rest plan).bytes ≡ drop from (content_of chunks rest).bytes
same_chunked from known at rest plan chunks p c = rw (p, c) (chunked_bytes from known (chunked_content at 0 rest).bytes (chunked_content at 0 rest).stop)

pub same_ranged : (from : ℕ) (known : Option ℕ) (at : ℕ) (rest : List ℕ) (count total : ℕ) (chunked : Bool) (plan : Plan) (chunks : Chunks)
    → plan ≡ Ranged count total chunked
    → chunks ≡ (if chunked then record { at = at; sum = 0; part = part.Line } else record { at = at; sum = count; part = part.Whole count })
    → (plan_verdict from known at rest plan).bytes ≡ take count (content_of chunks rest).bytes
same_ranged from known at rest count total true plan chunks p c = rw (p, c) refl
same_ranged from known at rest count total false plan chunks p c = rw (p, c) refl
