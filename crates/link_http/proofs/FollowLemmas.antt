-- From what was read and taken of a reply to its verdict.
use Rattle.std.proofs.lemmas.List.{drop-append-le}
use Rattle.std.proofs.Common.{◌≡◌, ◌≢◌, ◌+◌, ◌≤◌, length, length-drop, take, ℕ, List, [], ◌++◌, ◌⊎◌, refl, sym, ap, ◌∙◌, subst, arith, inl, inr, Bool, true, false, not, Result, Ok, Err, Option, Some, None, drop}
use Rattle.std.specs.Prelude.{IsTrue, IsFalse}
use Rattle.std.specs.Option.{option_or}
use Rattle.folder_base.specs.declared.store_fault.StoreFault.{StoreFault}
use Rattle.httparse.specs.Grammar.{ResponseHead, status_code}
use Rattle.httparse.specs.Spans.{IsResponseWithin}
use Rattle.httparse.specs.declared.spans.HeaderSpan.{HeaderSpan}
use Rattle.http_reply.specs.declared.piece_fault.PieceFault.{PieceFault}
use Rattle.http_reply.specs.declared.piece_fault.PieceFault.TheVariants.{Folder, OutOfMemory}
use Rattle.http_reply.specs.declared.plan.Plan.{Plan}
use Rattle.http_reply.specs.declared.judged.Judged.{Judged}
use Rattle.http_reply.specs.Fields.{Fields, fields_of, fields_at}
use Rattle.http_reply.specs.Heads.{HeadsEnd, Heads, final}
use Rattle.http_reply.specs.Verdict.{Verdict, IsVerdict, heads_verdict, refused, judge, judged_verdict, plan_verdict}
use Rattle.text_base.specs.declared.faults.FolderCall.{FolderCall}
use Rattle.http_reply.specs.Faults.{Origin, of_asking, of_hearing, of_taking, of_url, of_reply, origin, breaks, replies, hears, follows, is_broken, is_cause, is_heard, is_after_request}
use Rattle.http_reply.proofs.VerdictLemmas.{verdict_unique}
use Rattle.link_http.specs.Heads.{GivesHeads, IsHeadsFault}
use Rattle.link_http.specs.declared.final_head.FinalHead.{FinalHead}
use Rattle.link_http.specs.declared.fetched.Fetched.{Fetched}
use Rattle.link_http.specs.Taking.{is_judged, Broke, Takes, Tells, Follows}

err_is : (a b : PieceFault) → ◌≡◌ {A = Result Fetched PieceFault} (Err a) (Err b) → a ≡ b
err_is a b e = cc

or_none : (known : Option ℕ) → known ≡ option_or known None
or_none (Some n) = refl
or_none None = refl

unbroken : (b : Bool) → not b ≡ true → b ≡ false
unbroken true is = absurd (cc)
unbroken false is = refl

-- a head, and what it was judged to ask
pub record HeadOf (from : ℕ) (known : Option ℕ) (reply : List ℕ) (at : ℕ) (j : Judged) : Type 0 where
  pub head : ResponseHead
  pub heads : Heads reply 0 (final head at)
  pub is : j ≡ judge from known (status_code head) (fields_of head)

verdict_by : (from : ℕ) (known : Option ℕ) (reply : List ℕ) (at : ℕ) (j : Judged) → HeadOf from known reply at j
    → IsVerdict from known reply (judged_verdict from known at (drop at reply) j.told j.plan)
verdict_by from known reply at j h = record {
  ending = final h.head at;
  heads = h.heads;
  is = ap (λ (x : Judged). judged_verdict from known at (drop at reply) x.told x.plan) h.is;
}

not_folder : (fault : PieceFault) → IsHeadsFault fault → (call : FolderCall) → fault ≢ Folder call
not_folder fault (inr memory) call is = absurd (cc)
not_folder fault (inl heard) call is = let e : false ≡ true = subst (λ (f : PieceFault). IsTrue (is_heard f)) is heard in absurd (cc)

-- what the heads give comes behind a request
heard_after : (o : Origin) → hears o ≡ true → follows o ≡ true
heard_after of_asking e = absurd (cc)
heard_after of_hearing e = refl
heard_after of_taking e = absurd (cc)
heard_after of_url e = absurd (cc)
heard_after of_reply e = refl

pub heads_after : (fault : PieceFault) → IsHeadsFault fault → IsTrue (is_after_request fault)
heads_after fault (inl heard) = heard_after (origin fault) heard
heads_after fault (inr memory) = ap (λ (f : PieceFault). is_after_request f) memory

-- what a reply gives is no failed call
no_break : (o : Origin) → replies o ≡ true → breaks o ≡ false
no_break of_asking e = absurd (cc)
no_break of_hearing e = absurd (cc)
no_break of_taking e = absurd (cc)
no_break of_url e = absurd (cc)
no_break of_reply e = refl

pub cause_whole : (fault : PieceFault) → IsTrue (is_cause fault) → is_broken fault ≡ false
cause_whole fault cause = no_break (origin fault) cause

not_judged : (result : Result Fetched PieceFault) (fault : PieceFault) → result ≡ Err fault → IsTrue (is_broken fault) → IsFalse (is_judged result)
not_judged result fault is broken = ap is_judged is ∙ ap not broken

module _ {T : Type 0} (took : T → List ℕ → T → Type 0) (may_refuse : T → List ℕ → StoreFault → Type 0) where
  pub nothing_taken : ((s : T) → took s [] s) → (fault : PieceFault) (t : T) → ((call : FolderCall) → fault ≢ Folder call) → Broke took may_refuse fault t t
  nothing_taken none fault t free = record {
    bytes = [];
    between = t;
    piece = [];
    taken = none t;
    some = record { count = 0; within = omega arith; front = none t };
    why = inl (refl, free);
  }

  -- The heads gave no final one.
  pub follows_heads : ((s : T) → took s [] s) → (tells : Type 0) (from : ℕ) (known : Option ℕ) (reply : List ℕ) (fault : PieceFault) (t : T) → IsHeadsFault fault
      → (tells → IsFalse (is_broken fault) → (ending : HeadsEnd) × Heads reply 0 ending × ((k : Option ℕ) → heads_verdict from k reply ending ≡ refused fault))
      → Follows took may_refuse tells from known reply (Err fault) t known t
  unfolding nothing_taken
  follows_heads none tells from known reply fault t heard gives = record {
    judged = λ judged. (
      [],
      none t,
      λ now.
          let g = gives now (unbroken (is_broken fault) judged) in
          (refused fault, record { ending = g.0; heads = g.1; is = sym (g.2 known) }, refl, refl, or_none known),
    );
    broken = λ f is broken. (
      nothing_taken none f t (not_folder f (subst IsHeadsFault (err_is fault f is) heard)),
      λ now verdict is_verdict. ((verdict.bytes, refl), inl refl),
    );
  }

  -- The final head was refused.
  pub follows_refused : ((s : T) → took s [] s) → (tells : Type 0) (from : ℕ) (known known' : Option ℕ) (reply : List ℕ) (fault : PieceFault) (at : ℕ) (j : Judged) (t : T)
      → is_broken fault ≡ false → j.plan ≡ Err fault → known' ≡ option_or known j.told → (tells → HeadOf from known reply at j)
      → Follows took may_refuse tells from known reply (Err fault) t known' t
  follows_refused none tells from known known' reply fault at j t whole plan is_known head = record {
    judged = λ judged. (
      [],
      none t,
      λ now.
          let v : Verdict = record { bytes = []; told = j.told; end = Err fault } in
          let same : judged_verdict from known at (drop at reply) j.told j.plan ≡ v = rw plan refl in
          (v, subst (IsVerdict from known reply) same (verdict_by from known reply at j (head now)), refl, refl, is_known),
    );
    broken = λ f is broken.
        let e : fault ≡ f = err_is fault f is in
        let no_ : false ≡ true = sym whole ∙ ap is_broken e ∙ broken in
        absurd (cc);
  }

  -- The body was taken.
  pub follows_taken : (tells : Type 0) (from : ℕ) (known known' : Option ℕ) (reply rest : List ℕ) (at : ℕ) (j : Judged) (plan : Plan)
      (result : Result Fetched PieceFault) (t u : T)
      → j.plan ≡ Ok plan → Takes took may_refuse (plan_verdict from known at rest plan) tells result t u
      → Tells (plan_verdict from known at rest plan).told tells result known known'
      → (tells → HeadOf from known reply at j × (rest ≡ drop at reply))
      → Follows took may_refuse tells from known reply result t known' u
  follows_taken tells from known known' reply rest at j plan result t u is_plan takes told head =
      let verdict = plan_verdict from known at rest plan in
      let is_verdict : tells → IsVerdict from known reply verdict = λ now.
      let same : judged_verdict from known at (drop at reply) j.told j.plan ≡ verdict =
      rw is_plan (ap (λ (r : List ℕ). plan_verdict from known at r plan) (sym (head now).1)) in
      subst (IsVerdict from known reply) same (verdict_by from known reply at j (head now).0) in
      record {
        judged = λ judged.
            let taken = takes.judged judged in
            (taken.0, taken.1, λ now. (verdict, is_verdict now, (taken.2 now).0, (taken.2 now).1, told.0 judged now));
        broken = λ f is broken.
            let broke = takes.broken f is broken in (
              broke.0,
              λ now v is_v.
                  let same : verdict ≡ v = verdict_unique from known reply verdict v (is_verdict now) is_v in
                  let front = broke.1 now in (
                    (front.0, ap (λ (x : Verdict). x.bytes) (sym same) ∙ front.1),
                    subst (λ (x : Verdict). (known' ≡ known) ⊎ (known' ≡ option_or known x.told)) same (told.1 (not_judged result f is broken)),
                  ),
            );
      }

-- Where the final head stands, by what was read of the reply.
pub head_of : (from : ℕ) (known : Option ℕ) (reply came rest : List ℕ) (headers : List HeaderSpan) (found : FinalHead) (j : Judged)
    → GivesHeads reply from came headers (Ok found) rest → found.start ≤ length came → IsResponseWithin (drop found.start came) headers found.spans
    → j ≡ judge from known found.spans.code (fields_at (drop found.start came) (take found.spans.headers headers))
    → HeadOf from known reply (found.start + found.spans.len) j
    × (drop (found.start + found.spans.len) came ++ rest ≡ drop (found.start + found.spans.len) reply)
head_of from known reply came rest headers found j gives start within is =
    let there = gives.2 in
    let at = found.start + found.spans.len in (
      record {
        head = gives.0;
        heads = gives.1;
        is = is ∙ ap (λ (n : ℕ). judge from known n (fields_at (drop found.start came) (take found.spans.headers headers))) there.code
            ∙ ap (λ (f : Fields). judge from known (status_code gives.0) f) there.fields;
      },
      sym (drop-append-le at came rest (omega (arith, within.section.len_fits, length-drop found.start came)))
          ∙ ap (λ (b : List ℕ). drop at b) gives.3,
    )

pub none_told : (known told : Option ℕ) → ((n : ℕ) → told ≡ Some n → ⊥) → known ≡ option_or known told
none_told known None none = or_none known
none_told known (Some n) none = absurd (none n refl)
