-- What callers need of texts of JSON: that tokens are read back, with gaps between them or none, and a
-- newline behind them.
pub use Rattle.json_lemmas.proofs.Spaced.{Piece, ends_after, gaps_of_both, gaps_of_plain, plain, plain_line, print_plain, tokens_in, tokens_in_both, tokens_in_plain, tokens_line}
