-- What callers need of the definitions of records: what names name, that what `==` calls equal is
-- equal, and that a platform's record states a platform.
pub use Rattle.record_reading.proofs.CallerLemmas.{named_by, format_found, modifier_found, colour_found, domain_found, own_format_name, own_modifier_name, own_colour_name, own_domain_name, same_pair, same_colour, same_bounds, bounds_by_numbers, stated_platform, stated_ids}
