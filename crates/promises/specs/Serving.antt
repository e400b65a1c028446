-- What is answered of a schedule and a list (document 02, request 10).
unfoldable pub use Rattle.service.specs.Serving.{ServesChecked, Serving}
