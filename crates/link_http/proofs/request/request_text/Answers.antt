use Rattle.std.proofs.Common.{◌++◌, ◌∙◌, List, ℕ, [], ap, sym, subst, arith}
use Rattle.std.specs.Prelude.{codes}
use Rattle.link_http.specs.Request.{request, target_of, to_target, line, fields_text, port_text, range_line}
use Rattle.link_http.specs.Sending.{IsWholeText}
use Rattle.link_http.proofs.RequestLemmas.{target_clean, request_whole}
use Rattle.link_http.proofs.request.request_text.Goals as goal

pub returns-clause-text : goal.returns-clause-text
unfolding request
returns-clause-text c =
    c.in_ok-extend_from_slice-3.ensures.items
    ∙ ap (λ (t : List ℕ). t ++ line []) (c.in_ok-extend_from_slice-2.ensures.items
    ∙ ap (λ (t : List ℕ). t ++ line (codes "Connection: close")) (c.in_ok-put_range.ensures
    ∙ ap (λ (t : List ℕ). t ++ range_line c.args.from) (c.in_ok-extend_from_slice.ensures.items
    ∙ ap (λ (t : List ℕ). t ++ line (codes "Accept-Encoding: identity")) (c.in_ok-put_fields.ensures
    ∙ ap (λ (t : List ℕ). t ++ fields_text c.args.headers.now) (c.in_ok-put_host.ensures
    ∙ ap (λ (t : List ℕ). t ++ line (codes "Host: " ++ c.args.host.now ++ port_text c.args.port)) (c.in_ok-put_target.ensures
    ∙ ap (λ (t : List ℕ). t ++ line (codes "GET " ++ target_of c.args.url.now ++ codes " HTTP/1.1")) c.new-text.ensures.items))))))

pub returns-clause-whole : goal.returns-clause-whole
returns-clause-whole c =
    subst IsWholeText (sym (returns-clause-text c))
    (request_whole (to_target c.args.host.now c.args.port c.args.url.now) c.args.headers.now c.args.from c.requires.host
    (target_clean c.args.url.now c.requires.valid) (omega (arith, c.ranges.port.fits)) (omega (arith, c.ranges.from.fits)))
