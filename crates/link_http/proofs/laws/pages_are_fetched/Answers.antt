use Rattle.std.proofs.Common.{ap, ◌∙◌, refl, inl}
use Rattle.link_http.specs.Wire.{Wire}
use Rattle.link_http.proofs.WorldLemmas.{world_leads}
use Rattle.link_http.proofs.laws.pages_are_fetched.Goals as goal

pub returns : goal.returns
returns g c bytes there fits within steady serves never memory =
    let wire = c.in-Ok.ensures.tells in
    let url = c.args.piece.now.url in
    let leads = world_leads c.args.pages.items url bytes there in
    c.fetch_from.ensures.complete refl leads.0 bytes
    (record {
      steady = ap (λ (w : Wire). w.steady) wire ∙ steady;
      serves = ap (λ (w : Wire). w.serves) wire ∙ serves;
      leads = leads.1;
      there = ap (λ (w : Wire). w.world url) wire ∙ there;
      fits = fits;
      within = within;
      known_is = inl refl;
    })
    never memory
